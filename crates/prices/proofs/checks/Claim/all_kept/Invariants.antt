use Rattle.std.proofs.Common.{ℕ, ◌<◌}
use Rattle.prices.specs.Claims.{IsKeptBy}
use Rattle.prices.proofs.checks.Claim.all_kept.Given as goal

-- no step over the legs below undercuts the totals
abbrev pub invariant-loop-number : goal.invariant-loop-number
invariant-loop-number g l = (k : ℕ) → k < l.number → IsKeptBy (g.N.Network.meaning l.self.net.now) l.self.plan.now l.self.labels.now k
