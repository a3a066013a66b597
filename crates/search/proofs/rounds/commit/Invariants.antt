use Rattle.search.proofs.Writing.{Committing}
use Rattle.search.proofs.rounds.commit.Given as goal

-- the labels below have ended the round
abbrev pub invariant-loop-label : goal.invariant-loop-label
invariant-loop-label g l = Committing l.label-index l.changed l.initial.labels l.labels
