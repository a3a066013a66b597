-- The plan to start from.
--   first_amount   what a leg carries, by its standing amount
--   First          the plan of these amounts
--   first_plan     the same as a list
--   level          the potential that is zero everywhere
use Rattle.std.specs.Prelude.{◌≡◌, ℕ, ◌<◌, min, if◌then◌else◌, List, map, length, ℤ, pos, ◌==◌}
use Rattle.std.specs.List.{range_with_len}
use Rattle.records.specs.declared.leg.Leg.{Leg}
use Rattle.network.specs.Nets.{Net}
use Rattle.plans.specs.Plans.{leg_at, amount, in_force}

-- where the charge is 0 the smaller of the standing amount and the capacity in force, else 0
abbrev pub first_amount : Leg → ℕ → ℕ
first_amount l s = if l.charge == 0 then min s (in_force l) else 0

pub record First (net : Net) (standing plan : List ℕ) : Type 0 where
  pub one_each : length plan ≡ length net.legs
  pub each : (k : ℕ) → k < length net.legs → amount plan k ≡ first_amount (leg_at net k) (amount standing k)

abbrev pub first_plan : Net → List ℕ → List ℕ
first_plan net standing = map (λ k. first_amount (leg_at net k) (amount standing k)) (range_with_len 0 (length net.legs))

abbrev pub level : ℕ → ℤ × ℤ
level v = (pos 0, pos 0)
