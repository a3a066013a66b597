use Rattle.std.proofs.Common.{◌≡◌, ℕ, Some}
use Rattle.search.specs.Chains.{On, past}
use Rattle.search.specs.Sweeps.{Walks}
use Rattle.search.proofs.walks.ChainedResidual.walk.Given as goal

-- the legs from the next one on are relaxed, and that is a leg of the station
abbrev pub invariant-loop-next : goal.invariant-loop-next
invariant-loop-next g l =
    ((k : ℕ) → l.next ≡ Some k → On (g.N.Network.meaning l.self.residual.net.now) l.direction l.station k)
    × Walks g.C.Grouped g.C.Cost.size (g.N.Network.meaning l.self.residual.net.now) l.self.residual.plan.now (g.F.Fees.cost l.self.residual.fees.now) l.direction l.station l.total (past l.next) l.initial.labels l.labels

abbrev pub decreases-loop-next : goal.decreases-loop-next
decreases-loop-next g l = past l.next
