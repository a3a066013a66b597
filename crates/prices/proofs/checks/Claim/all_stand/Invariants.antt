use Rattle.std.proofs.Common.{ℕ, ◌<◌}
use Rattle.prices.specs.Claims.{Stands}
use Rattle.prices.proofs.checks.Claim.all_stand.Given as goal

-- the totals of the stations below stand
abbrev pub invariant-loop-station : goal.invariant-loop-station
invariant-loop-station g l = (v : ℕ) → v < l.station → Stands (g.N.Network.meaning l.self.net.now) l.self.plan.now l.self.labels.now l.self.ranks.now v
