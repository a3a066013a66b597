use Rattle.std.proofs.Common.{◌≤◌, ◌<◌, arith}
use Rattle.plans.specs.Plans.{stations}
use Rattle.search.proofs.Stepping.{rounds_more, rounds_settled, rounds_trip}
use Rattle.search.proofs.rounds.rounds.Goals as goal

pub loop-round-preserved : goal.loop-round-preserved
loop-round-preserved g c =
    let net = g.N.Network.meaning c.args.chained.now.residual.net.now in
    let few : stations net ≤ 240 = (g.N.Network.limits c.args.chained.now.residual.net.now).few_stations in
    let low : c.loop-round._round < 240 = omega (arith, c.loop-round.invariant.0) in (
      c.loop-round.invariant.0,
      λ f.
          rounds_more g.C.Grouped g.C.Cost.size net c.args.chained.now.residual.plan.now (g.F.Fees.cost c.args.chained.now.residual.fees.now) f
          c.loop-round._round c.args.labels.now c.loop-round.labels (c.loop-round.invariant.1 f) c.round.result c.round.new.labels low (c.round.ensures f) c.if-not-round.false,
    )

pub returns-then-not-round : goal.returns-then-not-round
returns-then-not-round g c =
    let net = g.N.Network.meaning c.args.chained.now.residual.net.now in
    let few : stations net ≤ 240 = (g.N.Network.limits c.args.chained.now.residual.net.now).few_stations in
    let low : c.loop-round._round < 240 = omega (arith, c.loop-round.invariant.0) in
    let up : 1 ≤ stations net → c.loop-round._round < stations net = λ h. omega (arith, c.loop-round.invariant.0) in
    λ f.
    rounds_settled g.C.Grouped g.C.Cost.size net c.args.chained.now.residual.plan.now (g.F.Fees.cost c.args.chained.now.residual.fees.now) f
    c.loop-round._round c.args.labels.now c.loop-round.labels (c.loop-round.invariant.1 f) c.round.result c.round.new.labels low (c.round.ensures f) c.if-not-round.true up

pub returns : goal.returns
returns g c =
    let net = g.N.Network.meaning c.args.chained.now.residual.net.now in
    λ f.
    rounds_trip g.C.Grouped g.C.Cost.size net c.args.chained.now.residual.plan.now (g.F.Fees.cost c.args.chained.now.residual.fees.now) f
    c.loop-round._round c.args.labels.now c.loop-round.labels (c.loop-round.invariant.1 f) (omega (arith, c.loop-round.invariant.0, c.loop-round-test.false))
