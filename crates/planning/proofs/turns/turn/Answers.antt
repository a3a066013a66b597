use Rattle.planning.proofs.Turning.{turned, never_short}
use Rattle.planning.proofs.turns.turn.Goals as goal

pub returns-in_err-search-clause-turns : goal.returns-in_err-search-clause-turns
returns-in_err-search-clause-turns g c =
    let p = c.requires.prepared in absurd (never_short (g.N.Network.meaning c.args.net.now) c.args.tables.now.labels.now c.args.tables.now.chains (p.labels, p.heads, p.nexts) c.in_err-search.ensures.too_short)

pub returns-clause-turns : goal.returns-clause-turns
returns-clause-turns g c =
    rw c.then_some.ensures
    (turned (g.N.Network.meaning c.args.net.now) c.args.standing.now c.args.tables.now c.args.over c.requires.underway c.requires.prepared c.plan.result.now c.plan.ensures c.mark_over.new.marks
    c.send_round-less.result c.in_ok-search.field-0 c.requires.some c.mark_over.ensures _ c.in_ok-search.ensures.answer c.send_round-less.ensures.sends)
