-- What the loop over the lines keeps.
use Rattle.std.proofs.Common.{length}
use Rattle.call_lines.proofs.Reading.{Sofar}
use Rattle.call_lines.proofs.entry.entries_of.Given as goal

-- whatever reads the rest reads the whole behind the entries so far
abbrev pub invariant-loop-rest : goal.invariant-loop-rest
invariant-loop-rest l = Sofar l.sizes l.input l.rest l.entries.items

abbrev pub decreases-loop-rest : goal.decreases-loop-rest
decreases-loop-rest l = length l.rest
