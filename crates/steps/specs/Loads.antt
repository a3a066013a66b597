-- Legs with what they carry.
--   load_of   a leg by its number, with what a plan has it carry
--   Over      there is a residual step of that direction and leg, from one station to another
--               at a cost
use Rattle.std.specs.Prelude.{◌≡◌, ℕ, ◌<◌, List}
use Rattle.network.specs.Nets.{Net}
use Rattle.plans.specs.declared.direction.Direction.{Direction}
use Rattle.plans.specs.Plans.{leg_at, amount}
use Rattle.plans.specs.Residuals.{Joined, tail, head, residual}
use Rattle.steps.specs.declared.load.Load.{Load}
use Rattle.steps.specs.declared.step.Step.{Step}

abbrev pub load_of : Net → List ℕ → ℕ → Load
load_of net plan k = record { number = k; leg = leg_at net k; amount = amount plan k }

-- from u to v at the cost c
pub record Over {A : Type 0} (net : Net) (plan : List ℕ) (cost : Direction → ℕ → A)
    (s : Step) (u v : ℕ) (c : A) : Type 0 where
  pub joined : Joined net s.leg
  pub begins : tail s.direction (leg_at net s.leg) ≡ u
  pub ends : head s.direction (leg_at net s.leg) ≡ v
  pub takes : 0 < residual s.direction (leg_at net s.leg) (amount plan s.leg)
  pub costs : c ≡ cost s.direction s.leg
