-- What the loop over the entries keeps.
use Rattle.std.proofs.Common.{◌≡◌, ◌+◌, ◌++◌, drop, string_bytes}
use Rattle.day.specs.Lines.{day_lines}
use Rattle.day.specs.Rests.{lent_from}
use Rattle.day.proofs.telling.told.Given as goal

-- what is written, with the lines of the entries still to come, is the whole
abbrev pub invariant-loop-i : goal.invariant-loop-i
invariant-loop-i l =
    string_bytes l.out ++ day_lines l.sizes (l.i + 1) (drop l.i l.entries) l.rest.answers.now (lent_from l.rest)
    ≡ day_lines l.sizes 1 l.entries l.all.answers.now (lent_from l.all)
