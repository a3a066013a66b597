use Rattle.std.proofs.Common.{◌≡◌, ◌<◌, ◌≤◌, take, ap, ◌∙◌, arith}
use Rattle.plans.specs.Plans.{stations}
use Rattle.planning.specs.Rounds.{nearest_of, sendings_of}
use Rattle.planning.proofs.Sending.{some_more}
use Rattle.planning.proofs.Rounding.{nearest_more, nearest_none, nearest_all}
use Rattle.planning.proofs.Keeping.{draft_twice}
use Rattle.planning.proofs.sendings.send_nearest.Goals as goal

pub loop-turn-preserved : goal.loop-turn-preserved
loop-turn-preserved g c =
    let net = g.N.Network.meaning c.args.routes.now.net.now in
    let r = c.args.routes.now in
    let i = c.loop-turn.invariant in
    let few : c.loop-turn._turn < stations net = omega (arith, i.end, c.loop-turn-test.true) in
    let labels : c.first-labels.result.now ≡ take (stations net) r.labels.now = c.first-labels.ensures ∙ ap (λ n. take n r.labels.now) i.end in
    let found = c.in-Some.ensures.value ∙ ap (λ ls. nearest_of ls c.loop-turn.draft.left.now c.loop-turn.marks) labels in
    record {
      sends = some_more _ _ _ _ _ c.saturating_sub-over.ensures i.sends c.send.ensures.sends;
      end = i.end;
      outcome =
          nearest_more net r.standing.now r.labels.now c.args.marks.now (sendings_of c.args.over c.args.draft.now) (stations net) c.loop-turn._turn c.in-Some.next c.loop-turn.over c.send.result c.saturating_sub-over.result c.loop-turn.marks c.put.new.slice _ _
          few i.outcome found c.put.ensures c.saturating_sub-over.ensures c.send.ensures.amount c.send.ensures.draft;
      stay = draft_twice i.stay c.send.ensures.stay;
    }

pub returns-in_default-clause-outcome : goal.returns-in_default-clause-outcome
returns-in_default-clause-outcome g c =
    let net = g.N.Network.meaning c.args.routes.now.net.now in
    let r = c.args.routes.now in
    let i = c.loop-turn.invariant in
    let few : c.loop-turn._turn < stations net = omega (arith, i.end, c.loop-turn-test.true) in
    let labels : c.first-labels.result.now ≡ take (stations net) r.labels.now = c.first-labels.ensures ∙ ap (λ n. take n r.labels.now) i.end in
    let found = c.in_default.ensures.value ∙ ap (λ ls. nearest_of ls c.loop-turn.draft.left.now c.loop-turn.marks) labels in
    nearest_none net r.standing.now r.labels.now c.args.marks.now (sendings_of c.args.over c.args.draft.now) (stations net) c.loop-turn._turn c.loop-turn.marks (sendings_of c.loop-turn.over c.loop-turn.draft) few i.outcome found

pub returns-clause-outcome : goal.returns-clause-outcome
returns-clause-outcome g c =
    let net = g.N.Network.meaning c.args.routes.now.net.now in
    let r = c.args.routes.now in
    let i = c.loop-turn.invariant in
    let end : stations net ≤ c.loop-turn._turn = omega (arith, i.end, c.loop-turn-test.false) in
    nearest_all net r.standing.now r.labels.now c.args.marks.now (sendings_of c.args.over c.args.draft.now) (stations net) c.loop-turn._turn c.loop-turn.marks (sendings_of c.loop-turn.over c.loop-turn.draft) end i.outcome
