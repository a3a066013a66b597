use Rattle.planning.specs.States.{Marks}
use Rattle.planning.proofs.marks.mark_over.Given as goal

-- the stations below are marked
abbrev pub invariant-loop-station : goal.invariant-loop-station
invariant-loop-station l = Marks l.station l.draft.left.now l.marks
