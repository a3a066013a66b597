-- How a line is judged, by what the lines before it settled.
--   in_order, in_range, has_room, in_count   the four tests of a line that has a form, in checking order
--   is_node    a number that names a node
--   advanced   what is settled once a line is taken
--   judged     what is settled once the line is taken, or the refusal of the lowest number
--   finished   what the problem line announced, once every line is taken, by `finished_by`
use Rattle.std.specs.Prelude.{ℕ, ◌+◌, Bool, true, cond, not, ◌&&◌, pos, negsuc, is_some, Some, None, Ok, Err, Option, Result, ◌==◌, int_le, nat_le, nat_lt}
use Rattle.records.specs.declared.refusal.Refusal.{Refusal}
use Rattle.records.specs.declared.refusal.Refusal.TheVariants.{LineOutOfOrder, FieldOutOfRange, TablesTooShort, ArcsMiscounted}
use Rattle.lines.specs.declared.line.Line.{Line}
use Rattle.lines.specs.declared.line.Line.TheVariants.{Comment, Problem, Node, Arc}
use Rattle.text_rules.specs.Rules.{nodes_of, arcs_of}
use Rattle.text_rules.specs.declared.progress.Header.{Header}
use Rattle.text_rules.specs.declared.progress.Progress.{Progress}
use Rattle.text_rules.specs.declared.progress.Room.{Room}

-- one problem line, node and arc lines behind it, and no node line behind an arc line
abbrev pub in_order : Progress → Line → Bool
in_order p Comment = true
in_order p (Problem nodes arcs) = not (is_some p.header)
in_order p (Node id flow) = is_some p.header && p.arcs == 0
in_order p (Arc source target low capacity cost) = is_some p.header

-- a node's number lies from 1 to the number of nodes
abbrev pub is_node : Progress → ℕ → Bool
is_node p id = nat_le 1 id && nat_le id (nodes_of p.header)

abbrev pub in_range : Progress → Line → Bool
in_range p Comment = true
in_range p (Problem nodes arcs) = nat_le 1 nodes && nat_le nodes 240 && nat_le arcs 3000
in_range p (Node id flow) = is_node p id && int_le (negsuc 499) flow && int_le flow (pos 500)
in_range p (Arc source target low capacity cost) =
    is_node p source && is_node p target && not (source == target) && low == 0 && nat_le capacity 500 && nat_le cost 10000

abbrev pub has_room : Room → Line → Bool
has_room room Comment = true
has_room room (Problem nodes arcs) = nat_le nodes room.stations && nat_le arcs room.legs
has_room room (Node id flow) = true
has_room room (Arc source target low capacity cost) = true

abbrev pub in_count : Progress → Line → Bool
in_count p Comment = true
in_count p (Problem nodes arcs) = true
in_count p (Node id flow) = true
in_count p (Arc source target low capacity cost) = nat_lt p.arcs (arcs_of p.header)

abbrev pub advanced : Progress → Line → Progress
advanced p Comment = p
advanced p (Problem nodes arcs) = record { header = Some (record { nodes = nodes; arcs = arcs }); arcs = p.arcs }
advanced p (Node id flow) = p
advanced p (Arc source target low capacity cost) = record { header = p.header; arcs = p.arcs + 1 }

-- the line is the one of the number given, counted from 1
abbrev pub judged : Room → Progress → ℕ → Line → Result Progress Refusal
judged room p number l =
    cond (in_order p l)
    (cond (in_range p l)
    (cond (has_room room l)
    (cond (in_count p l) (Ok (advanced p l)) (Err (ArcsMiscounted number)))
    (Err (TablesTooShort number)))
    (Err (FieldOutOfRange number)))
    (Err (LineOutOfOrder number))

-- the header, where one came and as many arcs as it announced; else the refusal at the last line, whose number is given
abbrev pub finished_by : Option Header → ℕ → ℕ → Result Header Refusal
finished_by None arcs number = Err (ArcsMiscounted number)
finished_by (Some h) arcs number = cond (arcs == h.arcs) (Ok h) (Err (ArcsMiscounted number))

abbrev pub finished : Progress → ℕ → Result Header Refusal
finished p number = finished_by p.header p.arcs number
