-- The fees of steps are what plans say that steps cost.
use Rattle.std.proofs.Common.{◌≡◌, ℕ, List, refl, ap}
use Rattle.network.specs.Nets.{Net}
use Rattle.plans.specs.declared.direction.Direction.{Direction}
use Rattle.plans.specs.declared.direction.Direction.TheVariants.{Forth, Back}
use Rattle.plans.specs.Residuals.{Step, BothStep, step_cents, step_both}
use Rattle.steps.specs.Fees.{paid, cents_worth, both_worth}

pub paid_cents : (net : Net) (plan : List ℕ) (d : Direction) (k : ℕ) → paid cents_worth net plan d k ≡ step_cents net d k
paid_cents net plan Forth k = refl
paid_cents net plan Back k = refl

pub paid_both : (net : Net) (standing plan : List ℕ) (d : Direction) (k : ℕ) → paid (both_worth standing) net plan d k ≡ step_both net standing plan d k
paid_both net standing plan Forth k = refl
paid_both net standing plan Back k = refl

pub cents_same : (net : Net) (plan : List ℕ) → paid cents_worth net plan ≡ step_cents net
cents_same net plan = λ i d k. paid_cents net plan d k i

pub both_same : (net : Net) (standing plan : List ℕ) → paid (both_worth standing) net plan ≡ step_both net standing plan
both_same net standing plan = λ i d k. paid_both net standing plan d k i

-- so the steps are those of plans
pub both_steps : (net : Net) (standing plan : List ℕ) → Step net plan (paid (both_worth standing) net plan) ≡ BothStep net standing plan
both_steps net standing plan = ap (λ cost. Step net plan cost) (both_same net standing plan)
