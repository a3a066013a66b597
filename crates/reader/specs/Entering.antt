-- What a line adds to the tables that a text is read into.
--   room_of                    the room of two tables
--   Small                      a line whose numbers fit the records, and how many arc lines there are with it
--   legs_with, stations_with   the tables once a line is entered
--   Filled                     what entering every line answers, and the tables where it is accepted
use Rattle.std.specs.Prelude.{◌≡◌, ℕ, ◌-◌, ◌≤◌, List, length, Ok, Err, Result, slice_set}
use Rattle.records.specs.declared.refusal.Refusal.{Refusal}
use Rattle.records.specs.declared.leg.Leg.{Leg}
use Rattle.records.specs.declared.station.Station.{Station}
use Rattle.lines.specs.declared.line.Line.{Line}
use Rattle.lines.specs.declared.line.Line.TheVariants.{Comment, Problem, Node, Arc}
use Rattle.text_rules.specs.Reading.{reading, answer_of, legs_after, stations_after}
use Rattle.text_rules.specs.Stated.{leg_of, as_station}
use Rattle.text_rules.specs.declared.progress.Header.{Header}
use Rattle.text_rules.specs.declared.progress.Room.{Room}

abbrev pub room_of : List Leg → List Station → Room
room_of legs stations = record { stations = length stations; legs = length legs }

abbrev pub Small : Line → ℕ → Type 0
Small Comment number = Unit {0}
Small (Problem nodes arcs) number = Unit {0}
Small (Node id flow) number = (1 ≤ id) × (id ≤ 240)
Small (Arc source target low capacity cost) number =
    (1 ≤ source) × (source ≤ 240) × (1 ≤ target) × (target ≤ 240) × (capacity ≤ 500) × (1 ≤ number)

-- the leg of an arc line goes to the place of that line among the arc lines
abbrev pub legs_with : Line → ℕ → List Leg → List Leg
legs_with Comment number legs = legs
legs_with (Problem nodes arcs) number legs = legs
legs_with (Node id flow) number legs = legs
legs_with (Arc source target low capacity cost) number legs = slice_set legs (number - 1) (leg_of source target capacity cost)

-- a node line's balance goes to its station
abbrev pub stations_with : Line → List Station → List Station
stations_with Comment stations = stations
stations_with (Problem nodes arcs) stations = stations
stations_with (Node id flow) stations = slice_set stations (id - 1) (as_station flow)
stations_with (Arc source target low capacity cost) stations = stations

abbrev pub Filled : Result Header Refusal → Room → List ℕ → List Leg → List Station → Type 0
Filled (Ok sizes) room text legs stations =
    (Ok sizes ≡ answer_of (reading room text)) × (legs ≡ legs_after (reading room text) room.legs)
    × (stations ≡ stations_after (reading room text) room.stations)
Filled (Err e) room text legs stations = reading room text ≡ Err e
