use Rattle.std.proofs.Common.{◌≡◌, ℕ, ◌<◌, get_or, pos}
use Rattle.plans.specs.Plans.{balance_at}
use Rattle.planning.specs.Leavings.{Near}
use Rattle.planning.proofs.mend.leaving.write_balances.Given as goal

-- the balances below are written
abbrev pub invariant-loop-station : goal.invariant-loop-station
invariant-loop-station g l = (v : ℕ) → v < l.station → (get_or l.left v (pos 0) ≡ balance_at (g.N.Network.meaning l.net) v) × Near 2147483648 (get_or l.left v (pos 0))
