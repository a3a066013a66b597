use Rattle.std.proofs.Common.{◌≤◌, length, arith, rules}
use Rattle.text_rules.specs.declared.progress.Room.{Room}
use Rattle.text_table.proofs.Standing.{held, stands}
use Rattle.text_table.proofs.read_table.Goals as goal

pub slice_bounds-result-end-2 : goal.slice_bounds-result-end-2
slice_bounds-result-end-2 c =
    let e = c.in_ok-nodes.ensures in
    let room : Room = record { stations = length c.args.stations.now; legs = length c.args.legs.now } in
    let h = held c.args.text.now room _ _ _ e.answer e.legs e.stations in
    let k : c.in_ok-nodes.field-0.nodes ≤ length c.read.new.stations = omega (arith, h.nodes_are, h.fitting.0, c.read.auto.stations) in
    search rules

pub returns : goal.returns
returns c =
    let e = c.in_ok-nodes.ensures in
    let room : Room = record { stations = length c.args.stations.now; legs = length c.args.legs.now } in
    let h = held c.args.text.now room _ _ _ e.answer e.legs e.stations in
    stands _ room _ _ _ h
