-- Potentials as slices hold them.
--   nearest_in_reach   the nearest number within 2^40 of 0
--   nothing            the potential that is zero, as slices hold it
--   stated_at          what a slice says of a station, 0 where it says nothing
--   potential          the same as a potential, each part held within reach
--   BareMendIsFirst    by potentials that are all zero, each guess is mended to the plan to start from
use Rattle.std.specs.Prelude.{ℕ, ◌^◌, List, replicate, ℤ, pos, neg_ℤ, slice_index_or, ◌↔◌}
use Rattle.std.specs.Int.{int_max, int_min}
use Rattle.network.specs.Nets.{Net}
use Rattle.certificates.specs.Starts.{First}
use Rattle.certificates.specs.Mends.{Mended}
use Rattle.costs.specs.Kinds.{CentsThenBikes, count}

abbrev pub nearest_in_reach : ℤ → ℤ
nearest_in_reach z = int_max (neg_ℤ (pos (2 ^ 40))) (int_min z (pos (2 ^ 40)))

abbrev pub nothing : CentsThenBikes
nothing = record { first = count (pos 0); second = count (pos 0) }

abbrev pub stated_at : List CentsThenBikes → ℕ → CentsThenBikes
stated_at ps v = slice_index_or ps v nothing

abbrev pub potential : List CentsThenBikes → ℕ → ℤ × ℤ
potential ps v = (nearest_in_reach (stated_at ps v).first.0, nearest_in_reach (stated_at ps v).second.0)

abbrev pub BareMendIsFirst : Type 0
BareMendIsFirst =
    (net : Net) (standing guess plan : List ℕ) (n : ℕ)
    → Mended net standing guess (potential (replicate n nothing)) plan ↔ First net standing plan
