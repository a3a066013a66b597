use Rattle.day.proofs.Rooms.{covers_more}
use Rattle.day.proofs.memory.room.Goals as goal

pub loop-call-preserved : goal.loop-call-preserved
loop-call-preserved c =
    covers_more _ _ _ _ _ c.loop-call.invariant (rw c.of_call.ensures at c.both-taken.ensures)
