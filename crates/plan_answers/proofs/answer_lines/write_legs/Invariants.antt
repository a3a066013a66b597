-- What the loop over the legs keeps.
use Rattle.std.proofs.Common.{◌≡◌, ◌++◌, IsUtf8}
use Rattle.plan_answers.proofs.Adding.{lines_below}
use Rattle.plan_answers.proofs.answer_lines.write_legs.Given as goal

-- the lines of the legs so far are written, and are text if what stood before them is
abbrev pub invariant-loop-number : goal.invariant-loop-number
invariant-loop-number g l =
    (l.out.items ≡ l.initial.out.items ++ lines_below (g.N.Network.meaning l.net) l.amounts l.number)
    × (IsUtf8 l.initial.out.items → IsUtf8 l.out.items)
