-- Plans on a network, and which of them is best.
--   sum_below      the sum of f over the numbers below m
--   stations       how many stations there are
--   leg_at         a leg by its number
--   amount         the bikes that a plan gives a leg; an amount that is missing counts as 0
--   balance_at     the balance of a station by its number
--   under_mark, in_force   the capacity in force
--   bikes_out      the bikes that a plan sends out of a station
--   bikes_in       the bikes that a plan brings into a station
--   Fits           a plan within the capacities in force
--   Obeys          a plan that obeys a network
--   cents          what a plan costs
--   apart          the larger of two amounts less the smaller
--   difference     how far a plan is from the standing plan
--   SameAmounts    two lists, as long or not, have the same amounts on the legs of a network
--   CheapestThenNearest   the best plan
--   EndsBelow      the legs lead from stations to stations
use Rattle.std.specs.Prelude.{◌≡◌, ℕ, zero, suc, ◌+◌, ◌-◌, ◌*◌, ◌<◌, ◌≤◌, cond, List, length, ℤ, pos, ◌-ℤ◌, ◌==◌, slice_index, slice_index_or}
use Rattle.records.specs.Cleared.{cleared_leg}
use Rattle.records.specs.declared.leg.Leg.{Leg}
use Rattle.records.specs.declared.leg.Mark.{Mark}
use Rattle.records.specs.declared.leg.Mark.TheVariants.{Open, Shut}
use Rattle.network.specs.Nets.{Net}

abbrev pub sum_below : ℕ → (ℕ → ℕ) → ℕ
sum_below zero f = 0
sum_below (suc m) f = sum_below m f + f m

abbrev pub stations : Net → ℕ
stations net = length net.balances

abbrev pub leg_at : Net → ℕ → Leg
leg_at net k = slice_index_or net.legs k cleared_leg

abbrev pub amount : List ℕ → ℕ → ℕ
amount plan k = slice_index plan k

abbrev pub balance_at : Net → ℕ → ℤ
balance_at net v = slice_index_or net.balances v (pos 0)

-- of a capacity under a mark
abbrev pub under_mark : Mark → ℕ → ℕ
under_mark Open c = c
under_mark Shut c = 0

-- the capacity of an open leg, 0 of a shut one
abbrev pub in_force : Leg → ℕ
in_force l = under_mark l.mark l.capacity

-- over the legs that start there
abbrev pub bikes_out : Net → List ℕ → ℕ → ℕ
bikes_out net plan v = sum_below (length net.legs) (λ k. cond ((leg_at net k).start == v) (amount plan k) 0)

-- over the legs that end there
abbrev pub bikes_in : Net → List ℕ → ℕ → ℕ
bikes_in net plan v = sum_below (length net.legs) (λ k. cond ((leg_at net k).end == v) (amount plan k) 0)

-- one amount for each leg, each within the capacity in force
pub record Fits (net : Net) (plan : List ℕ) : Type 0 where
  pub one_each : length plan ≡ length net.legs
  pub within : (k : ℕ) → k < length net.legs → amount plan k ≤ in_force (leg_at net k)

-- it fits, and at each station bikes out less bikes in are the balance, as integers
pub record Obeys (net : Net) (plan : List ℕ) : Type 0 where
  pub fits : Fits net plan
  pub balanced : (v : ℕ) → v < stations net → pos (bikes_out net plan v) -ℤ pos (bikes_in net plan v) ≡ balance_at net v

-- the sum over the legs of charge × bikes
abbrev pub cents : Net → List ℕ → ℕ
cents net plan = sum_below (length net.legs) (λ k. (leg_at net k).charge * amount plan k)

abbrev pub apart : ℕ → ℕ → ℕ
apart x y = (x - y) + (y - x)

-- the sum over the legs of the larger amount less the smaller; standing amounts past the legs are not looked at
abbrev pub difference : Net → List ℕ → List ℕ → ℕ
difference net standing plan = sum_below (length net.legs) (λ k. apart (amount plan k) (amount standing k))

abbrev pub SameAmounts : Net → List ℕ → List ℕ → Type 0
SameAmounts net one other = (k : ℕ) → k < length net.legs → amount one k ≡ amount other k

-- every other plan that obeys has at least its cents and, if equal, at least its difference
pub record CheapestThenNearest (net : Net) (standing plan : List ℕ) : Type 0 where
  pub obeys : Obeys net plan
  pub cheapest : (other : List ℕ) → Obeys net other → cents net plan ≤ cents net other
  pub nearest : (other : List ℕ) → Obeys net other → cents net plan ≡ cents net other → difference net standing plan ≤ difference net standing other

abbrev pub EndsBelow : Net → Type 0
EndsBelow net = (k : ℕ) → k < length net.legs → ((leg_at net k).start < stations net) × ((leg_at net k).end < stations net)
