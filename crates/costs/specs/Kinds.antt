-- Costs of one kind, by their numbers.
--   Cents, Bikes   numbers of cents, and of bikes of difference
--   CentsThenBikes   cents and bikes of difference
--   count   the number of a kind
--   cents_kind, both_kind   in which groups cents, and cents and bikes, are added and compared
--   count_text   a number as it is printed
--   spaced   two texts with a space between, where both are stated
use Rattle.std.specs.Prelude.{ℕ, List, ◌++◌, ℤ, Some, None, Option, codes}
use Rattle.std.specs.Fmt.{signed_decimal}
use Rattle.theory.specs.declared.Grouped.{Ghosts as Kind}
use Rattle.theory.specs.Groups.{whole, paired}
use Rattle.costs.specs.declared.count.Count.{Count}
use Rattle.costs.specs.declared.kinds.Cent.{Cent}
use Rattle.costs.specs.declared.kinds.Bike.{Bike}
use Rattle.costs.specs.declared.pair.Pair.{Pair}

abbrev pub Cents : Type 0
Cents = Count Cent

abbrev pub Bikes : Type 0
Bikes = Count Bike

abbrev pub CentsThenBikes : Type 0
CentsThenBikes = Pair Cents Bikes

abbrev pub count : {K : Type 0} → ℤ → Count K
count z = record { 0 = z; 1 = record {} }

abbrev pub cents_kind : Kind Cents
cents_kind = record { Member = ℤ; group = whole; worth = λ c. c.0 }

abbrev pub both_kind : Kind CentsThenBikes
both_kind = record {
  Member = ℤ × ℤ;
  group = paired whole whole;
  worth = λ c. (c.first.0, c.second.0);
}

abbrev pub count_text : {K : Type 0} → Count K → List ℕ
count_text c = signed_decimal c.0

abbrev pub spaced : Option (List ℕ) → Option (List ℕ) → Option (List ℕ)
spaced (Some xs) (Some ys) = Some (xs ++ (codes " " ++ ys))
spaced (Some xs) None = None
spaced None o = None
