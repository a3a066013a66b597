-- What holds while a text is read: the lines so far, what they settled, and the tables.
use Rattle.std.proofs.Common.{◌≡◌, ℕ, ◌+◌, ◌-◌, ◌<◌, ◌≤◌, true, not, List, [], ◌∷◌, length, drop, set, pos, is_some, Some, None, Option, sym, refl, ap, ◌∙◌, arith}
use Rattle.std.proofs.lemmas.List.FromFn.{length-map-range_with_len}
use Rattle.std.proofs.lemmas.List.{length_push}
use Rattle.std.proofs.lemmas.Bool.{and_parts, both_ways, false≢true}
use Rattle.std.proofs.lemmas.Bool.Decides.{nat_tests}
use Rattle.records.specs.Cleared.{cleared_leg, cleared_station}
use Rattle.records.specs.declared.leg.Leg.{Leg}
use Rattle.records.specs.declared.station.Station.{Station}
use Rattle.lines.specs.declared.line.Line.{Line}
use Rattle.lines.specs.declared.line.Line.TheVariants.{Comment, Problem, Node, Arc}
use Rattle.text_rules.specs.Reading.{progress_of, padded, run}
use Rattle.text_rules.specs.Rows.{rows}
use Rattle.text_rules.specs.Rules.{nodes_of, arcs_of, NODES}
use Rattle.text_rules.specs.Stated.{legs_of, balance_of, station_of, stations_of, leg_of, as_station}
use Rattle.text_rules.specs.declared.progress.Header.{Header}
use Rattle.text_rules.specs.declared.progress.Progress.{Progress}
use Rattle.text_rules.specs.declared.progress.Room.{Room}
use Rattle.reader.specs.Entering.{legs_with, stations_with}
use Rattle.reader.specs.Taking.{State}
use Rattle.reader.proofs.Passing.{Passed}
use Rattle.reader.proofs.Tables.{padded_more, padded_set, padded_blank, station_set, stations_blank}

-- the tables have room for what some lines announced, and the legs so far are as many as their arc lines
pub record Sound (room : Room) (before : List Line) : Type 0 where
  pub nodes_few : nodes_of (progress_of before).header ≤ 240
  pub nodes_room : nodes_of (progress_of before).header ≤ room.stations
  pub arcs_room : arcs_of (progress_of before).header ≤ room.legs
  pub arcs_kept : (progress_of before).arcs ≤ arcs_of (progress_of before).header
  pub legs_long : length (legs_of before) ≡ (progress_of before).arcs
  pub nodes_same : NODES before ≡ nodes_of (progress_of before).header
  pub blank : (progress_of before).header ≡ None → (k : ℕ) → balance_of before k ≡ pos 0

none_from : (o : Option Header) → not (is_some o) ≡ true → o ≡ None
none_from None e = refl
none_from (Some h) e = absurd (false≢true e)

pub sound_more : (room : Room) (before : List Line) (l : Line) (q : Progress) → Sound room before
    → Passed room (progress_of before) l q → Sound room (l ∷ before)
sound_more room before Comment q s p =
    record {
      nodes_few = s.nodes_few;
      nodes_room = s.nodes_room;
      arcs_room = s.arcs_room;
      arcs_kept = s.arcs_kept;
      legs_long = s.legs_long;
      nodes_same = s.nodes_same;
      blank = s.blank;
    }
sound_more room before (Problem nodes arcs) q s p =
    let none = none_from (progress_of before).header p.ordered in
    record {
      nodes_few = grind (arith, nat_tests);
      nodes_room = grind (arith, nat_tests);
      arcs_room = grind (arith, nat_tests);
      arcs_kept = (let few = rw none at s.arcs_kept in omega arith);
      legs_long = s.legs_long;
      nodes_same = refl;
      blank = λ e k. s.blank none k;
    }
sound_more room before (Node id flow) q s p =
    record {
      nodes_few = s.nodes_few;
      nodes_room = s.nodes_room;
      arcs_room = s.arcs_room;
      arcs_kept = s.arcs_kept;
      legs_long = s.legs_long;
      nodes_same = s.nodes_same;
      blank = λ e k. absurd (both_ways (is_some (progress_of before).header) (ap is_some e) (and_parts _ _ p.ordered).0);
    }
sound_more room before (Arc source target low capacity cost) q s p =
    record {
      nodes_few = s.nodes_few;
      nodes_room = s.nodes_room;
      arcs_room = s.arcs_room;
      arcs_kept = grind (arith, nat_tests);
      legs_long = length_push (legs_of before) (leg_of source target capacity cost) ∙ ap (λ n. n + 1) s.legs_long;
      nodes_same = s.nodes_same;
      blank = s.blank;
    }

-- the tables hold the records of the lines so far
abbrev pub LegsHeld : Room → List Line → List Leg → Type 0
LegsHeld room before legs = legs ≡ padded cleared_leg room.legs (legs_of before)

abbrev pub StationsHeld : Room → List Line → List Station → Type 0
StationsHeld room before stations = stations ≡ padded cleared_station room.stations (stations_of before)

pub legs_more : (room : Room) (before : List Line) (l : Line) (q : Progress) (legs : List Leg) → Sound room before
    → Passed room (progress_of before) l q → LegsHeld room before legs → LegsHeld room (l ∷ before) (legs_with l q.arcs legs)
legs_more room before Comment q legs s p held = held
legs_more room before (Problem nodes arcs) q legs s p held = held
legs_more room before (Node id flow) q legs s p held = held
legs_more room before (Arc source target low capacity cost) q legs s p held =
    let v : Leg = leg_of source target capacity cost in
    let free : length (legs_of before) < room.legs = grind (arith, nat_tests) in
    let more : q.arcs ≡ (progress_of before).arcs + 1 = ap (λ (x : Progress). x.arcs) p.after in
    let last : q.arcs - 1 ≡ length (legs_of before) = omega (arith, s.legs_long) in
    ap (λ i. set legs i v) last ∙ ap (λ xs. set xs (length (legs_of before)) v) held
    ∙ padded_more cleared_leg v room.legs (legs_of before) free

pub stations_more : (room : Room) (before : List Line) (l : Line) (q : Progress) (stations : List Station) → Sound room before
    → Passed room (progress_of before) l q → StationsHeld room before stations → StationsHeld room (l ∷ before) (stations_with l stations)
stations_more room before Comment q stations s p held = held
stations_more room before (Problem nodes arcs) q stations s p held =
    let blank = s.blank (none_from (progress_of before).header p.ordered) in
    let old-room : NODES before ≤ room.stations = omega (arith, s.nodes_same, s.nodes_room) in
    let new-room : nodes ≤ room.stations = grind (arith, nat_tests) in
    held ∙ ap (padded cleared_station room.stations) (stations_blank before (NODES before) blank)
    ∙ padded_blank cleared_station room.stations (NODES before) old-room
    ∙ sym (ap (padded cleared_station room.stations) (stations_blank (Problem nodes arcs ∷ before) nodes blank)
    ∙ padded_blank cleared_station room.stations nodes new-room)
stations_more room before (Node id flow) q stations s p held =
    let v : Station = as_station flow in
    let low : 1 ≤ id = grind (arith, nat_tests) in
    let under : id ≤ nodes_of (progress_of before).header = grind (arith, nat_tests) in
    let high : id ≤ NODES before = omega (arith, s.nodes_same) in
    let inside : id - 1 < length (stations_of before) = omega (arith, length-map-range_with_len (station_of before) 0 (NODES before)) in
    ap (λ xs. set xs (id - 1) v) held
    ∙ padded_set cleared_station v room.stations (id - 1) (stations_of before) inside
    ∙ ap (padded cleared_station room.stations) (station_set before id (NODES before) flow low high)
stations_more room before (Arc source target low capacity cost) q stations s p held = held

-- all that holds once some lines of a text are taken and entered
pub record Sofar (s : State) (legs : List Leg) (stations : List Station) : Type 0 where
  pub before : List Line
  pub settled : s.progress ≡ progress_of before
  pub counted : s.lines ≡ length before
  pub to_come : run s.room before (rows (drop s.place s.text)) ≡ run s.room [] (rows s.text)
  pub legs_held : LegsHeld s.room before legs
  pub stations_held : StationsHeld s.room before stations
  pub sound : Sound s.room before
