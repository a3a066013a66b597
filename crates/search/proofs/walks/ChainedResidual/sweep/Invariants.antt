use Rattle.search.specs.Sweeps.{Sweeps}
use Rattle.search.proofs.walks.ChainedResidual.sweep.Given as goal

-- the steps from the stations so far are relaxed
abbrev pub invariant-loop-station : goal.invariant-loop-station
invariant-loop-station g l =
    Sweeps g.C.Grouped g.C.Cost.size (g.N.Network.meaning l.self.residual.net.now) l.self.residual.plan.now (g.F.Fees.cost l.self.residual.fees.now) l.station l.initial.labels l.labels
