use Rattle.std.proofs.Common.{◌+◌, ◌<◌, ◌≤◌, min, Some, sym, subst, arith}
use Rattle.plans.specs.Plans.{stations}
use Rattle.planning.specs.Routes.{Sees}
use Rattle.planning.proofs.Measuring.{Measuring, Answers, measuring_more, measured, lost, astray}
use Rattle.planning.proofs.routes.Routes.measure.Goals as goal

pub loop-turn-preserved : goal.loop-turn-preserved
loop-turn-preserved g c =
    let net = g.N.Network.meaning c.args.self.now.net.now in
    let s = subst (λ s. Sees net c.args.self.now.standing.now c.args.draft.now.amounts.now c.args.self.now.labels.now c.loop-turn.at (Some s)) c.in-Came.is c.in_ok-look.ensures in
    let few : c.loop-turn._turn ≤ stations net = omega (arith, c.loop-turn.invariant.0) in
    let m = measuring_more net c.args.self.now.standing.now c.args.draft.now.amounts.now c.args.self.now.labels.now c.args.target c.loop-turn._turn c.loop-turn.at c.loop-turn.room c.in-Came.from c.in-Came.less few c.loop-turn.invariant.1 s in
    (c.loop-turn.invariant.0, subst (λ r. Measuring net c.args.self.now.standing.now c.args.draft.now.amounts.now c.args.self.now.labels.now c.args.target (c.loop-turn._turn + 1) c.in-Came.from r) (sym c.min-room.ensures) m)

pub returns-in_err-look : goal.returns-in_err-look
returns-in_err-look g c =
    let net = g.N.Network.meaning c.args.self.now.net.now in
    let few : c.loop-turn._turn ≤ stations net = omega (arith, c.loop-turn.invariant.0) in
    let a = subst (Answers net c.args.self.now.standing.now c.args.draft.now.amounts.now c.args.self.now.labels.now c.args.target) (sym c.from_residual.ensures)
    (lost net c.args.self.now.standing.now c.args.draft.now.amounts.now c.args.self.now.labels.now c.args.target c.loop-turn._turn c.loop-turn.at c.loop-turn.room few c.loop-turn.invariant.1 c.in_err-look.ensures) in
    record { finds = a.finds; is = a.is }

pub returns-in-Begun : goal.returns-in-Begun
returns-in-Begun g c =
    let net = g.N.Network.meaning c.args.self.now.net.now in
    let s = subst (λ s. Sees net c.args.self.now.standing.now c.args.draft.now.amounts.now c.args.self.now.labels.now c.loop-turn.at (Some s)) c.in-Begun.is c.in_ok-look.ensures in
    let few : c.loop-turn._turn ≤ stations net = omega (arith, c.loop-turn.invariant.0) in
    let a = measured net c.args.self.now.standing.now c.args.draft.now.amounts.now c.args.self.now.labels.now c.args.target c.loop-turn._turn c.loop-turn.at c.loop-turn.room few c.loop-turn.invariant.1 s in
    record { finds = a.finds; is = a.is }

pub returns-in-Came : goal.returns-in-Came
returns-in-Came g c =
    let net = g.N.Network.meaning c.args.self.now.net.now in
    let s = subst (λ s. Sees net c.args.self.now.standing.now c.args.draft.now.amounts.now c.args.self.now.labels.now c.loop-turn.at (Some s)) c.in-Came.is c.in_ok-look.ensures in
    let few : c.loop-turn._turn ≤ stations net = omega (arith, c.loop-turn.invariant.0) in
    let m = measuring_more net c.args.self.now.standing.now c.args.draft.now.amounts.now c.args.self.now.labels.now c.args.target c.loop-turn._turn c.loop-turn.at c.loop-turn.room c.in-Came.from c.in-Came.less few c.loop-turn.invariant.1 s in
    let h : stations net < c.loop-turn._turn + 1 = omega (arith, c.loop-turn.invariant.0) in
    let a = astray net c.args.self.now.standing.now c.args.draft.now.amounts.now c.args.self.now.labels.now c.args.target (c.loop-turn._turn + 1) c.in-Came.from (min c.loop-turn.room c.in-Came.less) h m in
    record { finds = a.finds; is = a.is }
