use Rattle.std.proofs.Common.{◌+◌, ◌<◌, ◌≤◌, arith}
use Rattle.plans.specs.Plans.{stations}
use Rattle.planning.proofs.Going.{going_more, going_stop, going_end}
use Rattle.planning.proofs.routes.Routes.push_along.Goals as goal

pub loop-turn-preserved : goal.loop-turn-preserved
loop-turn-preserved g c =
    let net = g.N.Network.meaning c.args.self.now.net.now in
    let few : c.loop-turn._turn ≤ stations net = omega (arith, c.loop-turn.invariant.0) in
    (c.loop-turn.invariant.0, going_more net c.args.self.now.labels.now c.args.bikes c.args.target c.args.plan.now c.loop-turn._turn c.loop-turn.at c.in-Some.from c.loop-turn.plan c.push_into.new.plan few c.loop-turn.invariant.1 c.in-Some.ensures)

pub returns-in-None : goal.returns-in-None
returns-in-None g c =
    let net = g.N.Network.meaning c.args.self.now.net.now in
    let few : c.loop-turn._turn ≤ stations net = omega (arith, c.loop-turn.invariant.0) in
    going_stop net c.args.self.now.labels.now c.args.bikes c.args.target c.args.plan.now c.loop-turn._turn c.loop-turn.at c.loop-turn.plan c.push_into.new.plan few c.loop-turn.invariant.1 c.in-None.ensures

pub returns-in-Some : goal.returns-in-Some
returns-in-Some g c =
    let net = g.N.Network.meaning c.args.self.now.net.now in
    let few : c.loop-turn._turn ≤ stations net = omega (arith, c.loop-turn.invariant.0) in
    let m = going_more net c.args.self.now.labels.now c.args.bikes c.args.target c.args.plan.now c.loop-turn._turn c.loop-turn.at c.in-Some.from c.loop-turn.plan c.push_into.new.plan few c.loop-turn.invariant.1 c.in-Some.ensures in
    let h : stations net < c.loop-turn._turn + 1 = omega (arith, c.loop-turn.invariant.0) in
    going_end net c.args.self.now.labels.now c.args.bikes c.args.target c.args.plan.now (c.loop-turn._turn + 1) c.in-Some.from c.push_into.new.plan h m
