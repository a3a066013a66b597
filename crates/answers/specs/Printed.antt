-- What `canonical` prints.
--   as_stations    the stations that have some balances
--   printed        the bytes printed for what reading a text came to
--   PrintsNet      a network, and the bytes that are printed for it
--   PrintsStated   a network that a text states, and the bytes that are printed for it
use Rattle.std.specs.Prelude.{◌≡◌, ℕ, List, map, ℤ, Ok, Err, Result}
use Rattle.records.specs.Refusals.{number, place}
use Rattle.records.specs.declared.refusal.Refusal.{Refusal}
use Rattle.records.specs.declared.station.Station.{Station}
use Rattle.lines.specs.declared.line.Line.{Line}
use Rattle.text_rules.specs.Stated.{StatedNetwork, as_station, legs_of, stations_of}
use Rattle.network.specs.Nets.{Net}
use Rattle.writer.specs.Canonical.{canonical}
use Rattle.answers.specs.Answered.{refusal_line}

abbrev pub as_stations : List ℤ → List Station
as_stations balances = map as_station balances

-- the canonical text of the network read, or the refusal
abbrev pub printed : Result (List Line) Refusal → List ℕ
printed (Ok lines) = canonical (stations_of lines) (legs_of lines)
printed (Err e) = refusal_line (number e) (place e)

abbrev pub PrintsNet : Net → List ℕ → Type 0
PrintsNet net bytes = bytes ≡ canonical (as_stations net.balances) net.legs

abbrev pub PrintsStated : StatedNetwork → List ℕ → Type 0
PrintsStated net bytes = bytes ≡ canonical net.stations net.legs
