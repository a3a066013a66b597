-- What the loop over the stations keeps.
use Rattle.std.proofs.Common.{◌≡◌, ◌++◌, drop, string_bytes}
use Rattle.std.specs.List.{flat_map}
use Rattle.writer.specs.Canonical.{node_lines, ended}
use Rattle.writer.proofs.write_nodes.Given as goal

-- what is written, with the lines of the stations still to come, is the whole
abbrev pub invariant-loop-i : goal.invariant-loop-i
invariant-loop-i l =
    string_bytes l.out ++ flat_map ended (node_lines l.i (drop l.i l.stations))
    ≡ string_bytes l.initial.out ++ flat_map ended (node_lines 0 l.stations)
