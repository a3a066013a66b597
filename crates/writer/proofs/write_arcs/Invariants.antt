-- What the loop over the legs keeps.
use Rattle.std.proofs.Common.{◌≡◌, ◌++◌, map, drop, string_bytes}
use Rattle.std.specs.List.{flat_map}
use Rattle.writer.specs.Canonical.{arc_line, ended}
use Rattle.writer.proofs.write_arcs.Given as goal

-- what is written, with the lines of the legs still to come, is the whole
abbrev pub invariant-loop-leg : goal.invariant-loop-leg
invariant-loop-leg l =
    string_bytes l.out ++ flat_map ended (map arc_line (drop l.leg-index l.legs))
    ≡ string_bytes l.initial.out ++ flat_map ended (map arc_line l.legs)
