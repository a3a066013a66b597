-- How large the network of some lines is, and tables that hold one.
--   length_legs, length_stations   as many legs as arc lines, and as many stations as nodes announced
--   fitting_roomy, roomy_fitting   the tables are as long as the network exactly where they suffice for every line
--   length_padded, same_padded     a table of n records, and the one list of a length that it holds
--   accepted_network, network_accepted   the tables that hold the network of some lines, and no other
use Rattle.std.proofs.Common.{◌≡◌, ℕ, ◌+◌, ◌≤◌, List, [], ◌∷◌, length, take, Ok, sym, refl, ap, ◌∙◌, arith, length-append}
use lib.ListN.{length-replicate}
use Rattle.std.proofs.lemmas.List.FromFn.{length-map-range_with_len}
use Rattle.std.proofs.lemmas.List.{length_push, take_at}
use Rattle.records.specs.Cleared.{cleared_leg, cleared_station}
use Rattle.lines.specs.declared.line.Line.{Line}
use Rattle.lines.specs.declared.line.Line.TheVariants.{Comment, Problem, Node, Arc}
use Rattle.text_rules.specs.Reading.{padded, answer_of, legs_after, stations_after, Accepted}
use Rattle.text_rules.specs.Rules.{NODES, ARCS, arc_lines}
use Rattle.text_rules.specs.Stated.{StatedNetwork, Lawful, Roomy, Complete, Fitting, leg_of, legs_of, station_of, stations_of, network_of}
use Rattle.text_rules.specs.declared.progress.Header.{Header}
use Rattle.text_rules.specs.declared.progress.Room.{Room}

pub length_legs : (lines : List Line) → length (legs_of lines) ≡ arc_lines lines
length_legs [] = refl
length_legs (Comment ∷ before) = length_legs before
length_legs (Problem nodes arcs ∷ before) = length_legs before
length_legs (Node id flow ∷ before) = length_legs before
length_legs (Arc source target low capacity cost ∷ before) =
    length_push (legs_of before) (leg_of source target capacity cost) ∙ ap (λ n. n + 1) (length_legs before)

pub length_stations : (lines : List Line) → length (stations_of lines) ≡ NODES lines
length_stations lines = length-map-range_with_len (station_of lines) 0 (NODES lines)

-- the tables suffice for what is announced
abbrev AnnouncedFits : Room → List Line → Type 0
AnnouncedFits room lines = (NODES lines ≤ room.stations) × (ARCS lines ≤ room.legs)

announced_roomy : (room : Room) (lines : List Line) → Roomy room lines → AnnouncedFits room lines
announced_roomy room [] m = (omega arith, omega arith)
announced_roomy room (Comment ∷ before) m = announced_roomy room before m.1
announced_roomy room (Problem nodes arcs ∷ before) m = m.0
announced_roomy room (Node id flow ∷ before) m = announced_roomy room before m.1
announced_roomy room (Arc source target low capacity cost ∷ before) m = announced_roomy room before m.1

roomy_announced : (room : Room) (lines : List Line) → Lawful lines → AnnouncedFits room lines → Roomy room lines
roomy_announced room [] w f = tt
roomy_announced room (Comment ∷ before) w f = (tt, roomy_announced room before w.3 f)
roomy_announced room (Problem nodes arcs ∷ before) w f =
    (f, roomy_announced room before w.3 (rw w.0 (omega arith, omega arith)))
roomy_announced room (Node id flow ∷ before) w f = (tt, roomy_announced room before w.3 f)
roomy_announced room (Arc source target low capacity cost ∷ before) w f = (tt, roomy_announced room before w.3 f)

pub fitting_roomy : (room : Room) (lines : List Line) → Complete lines → Roomy room lines → Fitting room (network_of lines)
fitting_roomy room lines c m =
    let f = announced_roomy room lines m in
    (rw length_stations f.0, rw (length_legs lines, c.1) f.1)

pub roomy_fitting : (room : Room) (lines : List Line) → Lawful lines → Complete lines → Fitting room (network_of lines) → Roomy room lines
roomy_fitting room lines w c f =
    roomy_announced room lines w (rw length_stations at f.0, rw (length_legs lines, c.1) at f.1)

pub length_padded : {X : Type 0} (blank : X) (n : ℕ) (xs : List X) → length xs ≤ n → length (padded blank n xs) ≡ n
length_padded blank n xs h = simp (length-append, length-replicate) (omega arith)

pub same_padded : {X : Type 0} (blank : X) (m n : ℕ) (xs ys : List X) → length xs ≡ length ys
    → padded blank m xs ≡ padded blank n ys → xs ≡ ys
same_padded blank m n xs ys h e =
    sym (take_at xs _ (length xs) refl) ∙ (ap (take (length xs)) e ∙ take_at ys _ (length xs) (sym h))

abbrev sizes_of : ℕ → ℕ → Header
sizes_of nodes arcs = record { nodes = nodes; arcs = arcs }

module _ (room : Room) (lines : List Line) where
  pub network_accepted : Fitting room (network_of lines)
      → Accepted (answer_of (Ok lines)) (legs_after (Ok lines) room.legs) (stations_after (Ok lines) room.stations) (network_of lines)
  network_accepted f =
      record {
        sizes = ap (λ n. Ok (sizes_of n (length (legs_of lines)))) (sym (length_stations lines));
        legs_are = ap (λ n. padded cleared_leg n (legs_of lines)) (sym (length_padded _ _ _ f.1));
        stations_are = ap (λ n. padded cleared_station n (stations_of lines)) (sym (length_padded _ _ _ f.0));
      }

  pub accepted_network : (net : StatedNetwork)
      → Accepted (answer_of (Ok lines)) (legs_after (Ok lines) room.legs) (stations_after (Ok lines) room.stations) net → net ≡ network_of lines
  accepted_network net a =
      let e : sizes_of (NODES lines) (length (legs_of lines)) ≡ sizes_of (length net.stations) (length net.legs) = cc a.sizes in
      let n = length_stations lines ∙ ap (λ (h : Header). h.nodes) e in
      let m = ap (λ (h : Header). h.arcs) e in
      let s = same_padded cleared_station _ _ (stations_of lines) net.stations n a.stations_are in
      let l = same_padded cleared_leg _ _ (legs_of lines) net.legs m a.legs_are in
      sym (rw (s, l))
