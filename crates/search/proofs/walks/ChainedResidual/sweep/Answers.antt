use Rattle.std.proofs.Common.{◌≡◌, subst, arith}
use Rattle.plans.specs.Plans.{stations}
use Rattle.search.specs.Sweeps.{Sweeps}
use Rattle.search.proofs.Visiting.{sweeps_more}
use Rattle.search.proofs.walks.ChainedResidual.sweep.Goals as goal

pub loop-station-preserved : goal.loop-station-preserved
loop-station-preserved g c =
    sweeps_more g.C.Grouped g.C.Cost.size (g.N.Network.meaning c.args.self.now.residual.net.now) c.args.self.now.residual.plan.now (g.F.Fees.cost c.args.self.now.residual.fees.now)
    c.loop-station.station c.args.labels.now c.loop-station.labels c.visit.new.labels c.loop-station.invariant c.visit.ensures

pub returns : goal.returns
returns g c =
    let net = g.N.Network.meaning c.args.self.now.residual.net.now in
    let e : c.loop-station.station ≡ stations net = omega (arith, c.stations-station-end.ensures) in
    subst (λ i. Sweeps g.C.Grouped g.C.Cost.size net c.args.self.now.residual.plan.now (g.F.Fees.cost c.args.self.now.residual.fees.now) i c.args.labels.now c.loop-station.labels) e c.loop-station.invariant
