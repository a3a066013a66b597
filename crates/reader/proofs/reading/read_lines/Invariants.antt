use Rattle.std.proofs.Common.{◌≡◌, ◌-◌, length}
use Rattle.reader.specs.Entering.{room_of}
use Rattle.reader.specs.Taking.{state_of}
use Rattle.reader.proofs.Sofar.{Sofar}
use Rattle.reader.proofs.reading.read_lines.Given as goal

abbrev pub invariant-loop-line : goal.invariant-loop-line
invariant-loop-line l =
    (l.reader.text.now ≡ l.text) × (l.reader.room ≡ room_of l.initial.legs l.initial.stations) × Sofar (state_of l.reader) l.legs l.stations

abbrev pub decreases-loop-line : goal.decreases-loop-line
decreases-loop-line l = length l.text - l.reader.place
