-- One leg takes more bikes or fewer, as a planner sends them along a residual step.
--   carried     what a leg carries after b bikes went along a step over it
--   shifted     the plan after b bikes went along a step
--   Takes       b bikes may go along a step, at what the step costs now
--   SendsAlong  the same of a leg that is there, in a plan
--   room        how many bikes may go along a step
--   room_over   the same by the leg's number
--   Sent        what a plan is after b bikes went from one station to another
use Rattle.std.specs.Prelude.{◌≡◌, ℕ, ◌+◌, ◌-◌, ◌<◌, ◌≤◌, min, cond, List, length, pos, ◌+ℤ◌, ◌-ℤ◌, ◌≢◌, nat_lt, slice_set}
use Rattle.network.specs.Nets.{Net}
use Rattle.theory.specs.Trails.{here}
use Rattle.plans.specs.declared.direction.Direction.{Direction}
use Rattle.plans.specs.declared.direction.Direction.TheVariants.{Forth, Back}
use Rattle.plans.specs.Plans.{leg_at, amount, in_force, Fits}
use Rattle.plans.specs.Residuals.{Joined}
use Rattle.plans.specs.Cuts.{left_over}

abbrev pub carried : Direction → ℕ → ℕ → ℕ
carried Forth x b = x + b
carried Back x b = x - b

abbrev pub shifted : Direction → List ℕ → ℕ → ℕ → List ℕ
shifted d plan k b = slice_set plan k (carried d (amount plan k) b)

-- by the capacity in force, the standing amount and the amount: within the capacity and no more than the leg carries, and
-- not past the standing amount where the step moves towards it
abbrev pub Takes : Direction → ℕ → ℕ → ℕ → ℕ → Type 0
Takes Forth m s x b = (x + b ≤ m) × (x < s → x + b ≤ s)
Takes Back m s x b = (b ≤ x) × (s < x → s ≤ x - b)

pub record SendsAlong (d : Direction) (net : Net) (standing plan : List ℕ) (k b : ℕ) : Type 0 where
  pub joined : Joined net k
  pub planned : k < length plan
  pub takes : Takes d (in_force (leg_at net k)) (amount standing k) (amount plan k) b

-- by the capacity in force, the standing amount and the amount
abbrev pub room : Direction → ℕ → ℕ → ℕ → ℕ
room Forth m s x = cond (nat_lt x s) (min s m) m - x
room Back m s x = x - cond (nat_lt s x) s 0

abbrev pub room_over : Direction → Net → List ℕ → List ℕ → ℕ → ℕ
room_over d net standing plan k = room d (in_force (leg_at net k)) (amount standing k) (amount plan k)

-- `moved` says of every station what the fields behind it say one by one; `here b u w` is b where w is u, else 0
pub record Sent (net : Net) (plan after : List ℕ) (b u v : ℕ) : Type 0 where
  pub fits : Fits net after
  pub moved : (w : ℕ) → left_over net after w ≡ (left_over net plan w -ℤ pos (here b u w)) +ℤ pos (here b v w)
  pub others : (w : ℕ) → (u ≢ w) → (v ≢ w) → left_over net after w ≡ left_over net plan w
  pub first : (u ≢ v) → left_over net after u ≡ left_over net plan u -ℤ pos b
  pub last : (u ≢ v) → left_over net after v ≡ left_over net plan v +ℤ pos b
  pub round : u ≡ v → (w : ℕ) → left_over net after w ≡ left_over net plan w
