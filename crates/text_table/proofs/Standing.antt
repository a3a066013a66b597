-- A table on the first NODES and ARCS of the records that a text was read into.
use Rattle.std.proofs.Common.{◌≡◌, ℕ, List, length, take, Ok, Err, Result, sym, refl, ap, ◌∙◌}
use Rattle.std.proofs.lemmas.List.{take_at, take_all}
use Rattle.records.specs.declared.leg.Leg.{Leg}
use Rattle.records.specs.declared.station.Station.{Station}
use Rattle.records.specs.declared.refusal.Refusal.{Refusal}
use Rattle.lines.specs.declared.line.Line.{Line}
use Rattle.text_rules.specs.Reading.{reading, answer_of, legs_after, stations_after}
use Rattle.text_rules.specs.Rules.{NODES}
use Rattle.text_rules.specs.Stated.{StatedNetwork, States, Fitting, network_of, legs_of, stations_of}
use Rattle.text_rules.specs.declared.progress.Header.{Header}
use Rattle.text_rules.specs.declared.progress.Room.{Room}
use Rattle.text_rules.proofs.Exact.{taken_states}
use Rattle.text_rules.proofs.Legal.{legal}
use Rattle.text_rules.proofs.Running.{Read, reads}
use Rattle.text_rules.proofs.Sizing.{fitting_roomy, length_stations}
use Rattle.network.specs.Nets.{Net, unasked}
use Rattle.table.specs.Tables.{table_of, balances_of}
use Rattle.text_table.specs.Stands.{Stands}

-- the lines that were read state the network that the records hold
pub record Held (text : List ℕ) (room : Room) (sizes : Header) (legs : List Leg) (stations : List Station) : Type 0 where
  pub net : StatedNetwork
  pub stated : States text net
  pub fitting : Fitting room net
  pub nodes_are : sizes.nodes ≡ length net.stations
  pub arcs_are : sizes.arcs ≡ length net.legs
  pub legs_are : take sizes.arcs legs ≡ net.legs
  pub stations_are : take sizes.nodes stations ≡ net.stations

by_reading : (text : List ℕ) (room : Room) (sizes : Header) (legs : List Leg) (stations : List Station) (whole : Result (List Line) Refusal)
    → Read text room whole → Ok sizes ≡ answer_of whole → legs ≡ legs_after whole room.legs
    → stations ≡ stations_after whole room.stations → Held text room sizes legs stations
by_reading text room sizes legs stations (Ok lines) t answer legs_left stations_left =
    let same : sizes ≡ record { nodes = NODES lines; arcs = length (legs_of lines) } = cc in
    let n : sizes.nodes ≡ NODES lines = ap (λ (h : Header). h.nodes) same in
    let m : sizes.arcs ≡ length (legs_of lines) = ap (λ (h : Header). h.arcs) same in
    record {
      net = network_of lines;
      stated = taken_states text room lines (network_of lines) t refl;
      fitting = fitting_roomy room lines t.complete t.good.roomy;
      nodes_are = n ∙ sym (length_stations lines);
      arcs_are = m;
      legs_are = ap (take sizes.arcs) legs_left ∙ take_at (legs_of lines) _ sizes.arcs (sym m);
      stations_are = ap (take sizes.nodes) stations_left ∙ take_at (stations_of lines) _ sizes.nodes (length_stations lines ∙ sym n);
    }
by_reading text room sizes legs stations (Err e) t answer legs_left stations_left = cc

pub held : (text : List ℕ) (room : Room) (sizes : Header) (legs : List Leg) (stations : List Station)
    → Ok sizes ≡ answer_of (reading room text) → legs ≡ legs_after (reading room text) room.legs
    → stations ≡ stations_after (reading room text) room.stations → Held text room sizes legs stations
held text room sizes legs stations = by_reading text room sizes legs stations (reading room text) (reads text room)

-- every station open, every leg a road leg
abbrev all_open : List Leg → List Station → Net
all_open ls ss = record { legs = ls; balances = balances_of ss; open_stations = length ss; road_legs = length ls; rule = unasked }

-- no more than 3,000 legs and 240 stations are stated, so the table counts them all
pub stands : (text : List ℕ) (room : Room) (sizes : Header) (legs : List Leg) (stations : List Station)
    → Held text room sizes legs stations → Stands text room (table_of (take sizes.arcs legs) (take sizes.nodes stations))
stands text room sizes legs stations h =
    let limits = legal text h.net.stations h.net.legs h.stated in
    let legs_all : take 3000 (take sizes.arcs legs) ≡ h.net.legs = ap (take 3000) h.legs_are ∙ take_all 3000 h.net.legs limits.few_legs in
    let stations_all : take 240 (take sizes.nodes stations) ≡ h.net.stations = ap (take 240) h.stations_are ∙ take_all 240 h.net.stations limits.few in
    record {
      net = h.net;
      stated = h.stated;
      fitting = h.fitting;
      meant = ap (λ x. all_open x (take 240 (take sizes.nodes stations))) legs_all ∙ ap (all_open h.net.legs) stations_all;
    }
