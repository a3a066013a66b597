-- A plan made of a guess and a potential: each leg carries what comes nearest to the guess, among the amounts at which no step
-- over the leg undercuts the potential.
--   less            one pair of cents and bikes is below another; bikes decide only between equal cents
--   towards, away   what a step forth over a leg costs: where the leg carries less than the standing amount, and from there on
--   rise            by how much a potential rises from the start of a leg to its end
--   fewest, most    the bounds of those amounts, by the standing amount and the rise
--   mended_amount   what a leg carries, by its standing amount, the rise and the guessed amount
--   Mended          the plan of these amounts
--   mended_plan     the same as a list
use Rattle.std.specs.Prelude.{◌≡◌, ℕ, ◌<◌, min, max, Bool, if◌then◌else◌, ◌&&◌, ◌||◌, List, map, length, ℤ, pos, negsuc, ◌-ℤ◌, int_le, int_lt}
use Rattle.std.specs.List.{range_with_len}
use Rattle.records.specs.declared.leg.Leg.{Leg}
use Rattle.network.specs.Nets.{Net}
use Rattle.plans.specs.Plans.{leg_at, amount, in_force}

abbrev pub less : ℤ × ℤ → ℤ × ℤ → Bool
less p q = int_lt p.0 q.0 || (int_le p.0 q.0 && int_lt p.1 q.1)

abbrev pub towards : Leg → ℤ × ℤ
towards l = (pos l.charge, negsuc 0)

abbrev pub away : Leg → ℤ × ℤ
away l = (pos l.charge, pos 1)

abbrev pub rise : Leg → (ℕ → ℤ × ℤ) → ℤ × ℤ
rise l π = ((π l.end).0 -ℤ (π l.start).0, (π l.end).1 -ℤ (π l.start).1)

-- a potential that rises by more than a step forth costs asks for more bikes: up to the standing amount, or up to the capacity
-- in force
abbrev pub fewest : Leg → ℕ → ℤ × ℤ → ℕ
fewest l s r = if less (towards l) r then (if less (away l) r then in_force l else min s (in_force l)) else 0

-- one that rises by less asks for fewer: down to the standing amount, or down to none
abbrev pub most : Leg → ℕ → ℤ × ℤ → ℕ
most l s r = if less r (away l) then (if less r (towards l) then 0 else min s (in_force l)) else in_force l

-- the guess itself where it is neither too few nor too many
abbrev pub mended_amount : Leg → ℕ → ℤ × ℤ → ℕ → ℕ
mended_amount l s r g = max (fewest l s r) (min g (most l s r))

pub record Mended (net : Net) (standing guess : List ℕ) (π : ℕ → ℤ × ℤ) (plan : List ℕ) : Type 0 where
  pub one_each : length plan ≡ length net.legs
  pub each : (k : ℕ) → k < length net.legs → amount plan k ≡ mended_amount (leg_at net k) (amount standing k) (rise (leg_at net k) π) (amount guess k)

abbrev pub mended_plan : Net → List ℕ → List ℕ → (ℕ → ℤ × ℤ) → List ℕ
mended_plan net standing guess π = map (λ k. mended_amount (leg_at net k) (amount standing k) (rise (leg_at net k) π) (amount guess k)) (range_with_len 0 (length net.legs))
