-- What steps cost, by direction, leg and amounts.
--   fee_cents   the cents of a step over a leg
--   fee_bikes   its bikes of difference
--   fee_both    both
--   paid        what the steps of a plan on a network cost
--   cents_worth, both_worth   the worths of fees in cents, and in both
--   CentsAreStepCents   fees in cents are the cents of steps
--   BothAreStepBoth     fees in both are the cents and the bikes of difference of steps
use Rattle.std.specs.Prelude.{◌≡◌, ℕ, List, ℤ, pos, negsuc, neg_ℤ, nat_le, nat_lt, if◌then◌else◌}
use Rattle.costs.specs.Kinds.{Cents, Bikes, CentsThenBikes, count}
use Rattle.records.specs.declared.leg.Leg.{Leg}
use Rattle.network.specs.Nets.{Net}
use Rattle.plans.specs.Plans.{amount}
use Rattle.plans.specs.declared.direction.Direction.{Direction}
use Rattle.plans.specs.declared.direction.Direction.TheVariants.{Forth, Back}
use Rattle.plans.specs.Residuals.{step_cents, step_both}
use Rattle.steps.specs.declared.load.Load.{Load}
use Rattle.steps.specs.Loads.{load_of}

-- the charge forth, the negated charge back
abbrev pub fee_cents : Direction → Leg → Cents
fee_cents Forth l = count (pos l.charge)
fee_cents Back l = count (neg_ℤ (pos l.charge))

-- from the standing amount and the amount: -1 towards the standing amount, 1 away from it
abbrev pub fee_bikes : Direction → ℕ → ℕ → Bikes
fee_bikes Forth s x = count (if nat_le s x then pos 1 else negsuc 0)
fee_bikes Back s x = count (if nat_lt s x then negsuc 0 else pos 1)

abbrev pub fee_both : List ℕ → Direction → Load → CentsThenBikes
fee_both standing d load = record {
  first = fee_cents d load.leg;
  second = fee_bikes d (amount standing load.number) load.amount;
}

-- each leg by its number, at the amount that the plan gives it
abbrev pub paid : {A : Type 0} → (Direction → Load → A) → Net → List ℕ → Direction → ℕ → A
paid cost net plan d k = cost d (load_of net plan k)

-- the worths of the fees in cents
abbrev pub cents_worth : Direction → Load → ℤ
cents_worth d load = (fee_cents d load.leg).0

-- the worths of the fees in both, over a standing plan
abbrev pub both_worth : List ℕ → Direction → Load → ℤ × ℤ
both_worth standing d load =
    ((fee_both standing d load).first.0, (fee_both standing d load).second.0)

abbrev pub CentsAreStepCents : Type 0
CentsAreStepCents = (net : Net) (plan : List ℕ) → paid cents_worth net plan ≡ step_cents net

abbrev pub BothAreStepBoth : Type 0
BothAreStepBoth =
    (net : Net) (standing plan : List ℕ)
    → paid (both_worth standing) net plan ≡ step_both net standing plan
