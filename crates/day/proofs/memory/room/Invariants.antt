-- What the loop over the calls keeps.
use Rattle.day.proofs.Rooms.{Covers}
use Rattle.day.proofs.memory.room.Given as goal

-- the entries suffice for the calls so far, if the most does
abbrev pub invariant-loop-call : goal.invariant-loop-call
invariant-loop-call l = Covers l.legs l.calls l.call-index l.taken
