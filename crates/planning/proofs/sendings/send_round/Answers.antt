use Rattle.planning.proofs.Sending.{some_all, once_more}
use Rattle.planning.proofs.Rounding.{round_less, round_all}
use Rattle.planning.specs.Rounds.{sendings_of}
use Rattle.planning.proofs.sendings.send_round.Goals as goal

pub returns-then-less-over-clause-sends : goal.returns-then-less-over-clause-sends
returns-then-less-over-clause-sends g c = some_all _ _ _ _ _ c.if-less-over.true c.send_nearest-less.ensures.sends

pub returns-then-less-over-clause-outcome : goal.returns-then-less-over-clause-outcome
returns-then-less-over-clause-outcome g c =
    round_less (g.N.Network.meaning c.args.net.now) c.args.standing.now c.args.labels.now c.args.marks.now (sendings_of c.args.over c.args.draft.now) (sendings_of c.send_nearest-less.result c.send_nearest-less.new.draft) c.send_nearest-less.ensures.outcome
    c.if-less-over.true

pub returns-clause-sends : goal.returns-clause-sends
returns-clause-sends g c = once_more _ _ _ _ _ c.if-less-over.false c.send_nearest-less.ensures.sends c.send_all.ensures.sends

pub returns-clause-outcome : goal.returns-clause-outcome
returns-clause-outcome g c =
    round_all (g.N.Network.meaning c.args.net.now) c.args.standing.now c.args.labels.now c.args.marks.now (sendings_of c.args.over c.args.draft.now) (sendings_of c.send_nearest-less.result c.send_nearest-less.new.draft)
    (sendings_of c.send_all.result c.send_all.new.draft) c.send_nearest-less.ensures.outcome c.if-less-over.false c.send_all.ensures.outcome
