use Rattle.std.proofs.Common.{◌<◌, length, arith}
use Rattle.std.proofs.lemmas.List.{get_or_default}
use Rattle.search.specs.Labels.{unlabelled}
use Rattle.search.proofs.Writing.{committing_more, committing_all}
use Rattle.search.proofs.rounds.commit.Goals as goal

pub loop-label-preserved : goal.loop-label-preserved
loop-label-preserved g c =
    let h : c.loop-label.label-index < length c.loop-label.labels = omega (arith, c.loop-label.auto.labels) in
    committing_more c.loop-label.label-index c.loop-label.changed _ c.next.result _ c.loop-label.labels h
    (get_or_default c.loop-label.labels c.loop-label.label-index c.label-item.result unlabelled h) c.next.ensures c.loop-label.invariant

pub returns : goal.returns
returns g c =
    committing_all c.loop-label.label-index c.loop-label.changed c.args.labels.now c.loop-label.labels (omega (arith, c.loop-label.auto)) (omega (arith, c.loop-label.auto)) c.loop-label.invariant
