-- What reading a text comes to.
--   progress_of   what some lines, newest first, settled
--   ◌next◌        an answer, and then what is made of it
--   ruled, run    a row, and all rows, read on behind some lines
--   reading       the lines of a text, newest first, or its refusal
--   padded        a table that holds a list and is cleared beyond
--   answer_of, legs_after, stations_after   what a call answers and leaves in the tables
--   ◌iff◌         one holds exactly where the other does
--   Accepted, RefusedAs   an answer that accepts a network, and one that refuses with a number and a place
--   Exactly       when a call accepts a text, and when and how it refuses one
use Rattle.std.specs.Prelude.{◌≡◌, ℕ, ◌+◌, ◌-◌, cond, ◌⊎◌, List, [], ◌∷◌, ◌++◌, length, replicate, Some, None, Ok, Err, Option, Result, nat_le}
use Rattle.records.specs.Cleared.{cleared_leg, cleared_station}
use Rattle.records.specs.Refusals.{number, place}
use Rattle.records.specs.declared.leg.Leg.{Leg}
use Rattle.records.specs.declared.station.Station.{Station}
use Rattle.records.specs.declared.refusal.Refusal.{Refusal}
use Rattle.records.specs.declared.refusal.Refusal.TheVariants.{TextTooLong, LineOutOfForm}
use Rattle.lines.specs.Scan.{scan}
use Rattle.lines.specs.declared.line.Line.{Line}
use Rattle.text_rules.specs.Judging.{judged, advanced, finished}
use Rattle.text_rules.specs.Rows.{rows}
use Rattle.text_rules.specs.Rules.{NODES}
use Rattle.text_rules.specs.Stated.{StatedNetwork, States, Fitting, Refused, legs_of, stations_of}
use Rattle.text_rules.specs.declared.progress.Header.{Header}
use Rattle.text_rules.specs.declared.progress.Progress.{Progress}
use Rattle.text_rules.specs.declared.progress.Room.{Room}

abbrev pub progress_of : List Line → Progress
progress_of [] = record { header = None; arcs = 0 }
progress_of (l ∷ before) = advanced (progress_of before) l

infixr 20 ◌next◌
-- an answer, and then what is made of it; a refusal stays
abbrev pub ◌next◌ : {X Y : Type 0} → Result X Refusal → (X → Result Y Refusal) → Result Y Refusal
Ok x next f = f x
Err e next f = Err e

-- the line that a row spells, where it keeps the rules
abbrev pub ruled : Room → List Line → Option Line → Result Line Refusal
ruled room before None = Err (LineOutOfForm (length before + 1))
ruled room before (Some l) = judged room (progress_of before) (length before + 1) l next λ p. Ok l

abbrev pub run : Room → List Line → List (List ℕ) → Result (List Line) Refusal
run room before [] = finished (progress_of before) (length before) next λ sizes. Ok before
run room before (row ∷ rest) = ruled room before (scan row) next λ l. run room (l ∷ before) rest

abbrev pub reading : Room → List ℕ → Result (List Line) Refusal
reading room text = cond (nat_le (length text) 65536) (run room [] (rows text)) (Err TextTooLong)

abbrev pub padded : {X : Type 0} → X → ℕ → List X → List X
padded blank n xs = xs ++ replicate (n - length xs) blank

abbrev pub answer_of : Result (List Line) Refusal → Result Header Refusal
answer_of (Ok lines) = Ok (record { nodes = NODES lines; arcs = length (legs_of lines) })
answer_of (Err e) = Err e

abbrev pub legs_after : Result (List Line) Refusal → ℕ → List Leg
legs_after (Ok lines) n = padded cleared_leg n (legs_of lines)
legs_after (Err e) n = replicate n cleared_leg

abbrev pub stations_after : Result (List Line) Refusal → ℕ → List Station
stations_after (Ok lines) n = padded cleared_station n (stations_of lines)
stations_after (Err e) n = replicate n cleared_station

abbrev pub ◌iff◌ : Type 0 → Type 0 → Type 0
◌iff◌ P Q = (P → Q) × (Q → P)

-- the answer and the tables after the call are those of a network
pub record Accepted (r : Result Header Refusal) (legs : List Leg) (stations : List Station) (net : StatedNetwork) : Type 0 where
  pub sizes : r ≡ Ok (record { nodes = length net.stations; arcs = length net.legs })
  pub legs_are : legs ≡ padded cleared_leg (length legs) net.legs
  pub stations_are : stations ≡ padded cleared_station (length stations) net.stations

-- the answer is a refusal of that number and place
abbrev pub RefusedAs : {X : Type 0} → Result X Refusal → ℕ → ℕ → Type 0
RefusedAs r k at = (e : Refusal) × (r ≡ Err e) × (number e ≡ k) × (place e ≡ at)

-- a text is accepted as a network exactly when it states it and the tables are long enough,
-- and refused with a number and a place exactly when the rules say so; every text is one or the other
pub record Exactly (text : List ℕ) (room : Room) (r : Result Header Refusal) (legs : List Leg) (stations : List Station) : Type 0 where
  pub accepted_when_stated : (net : StatedNetwork) → ◌iff◌ (States text net × Fitting room net) (Accepted r legs stations net)
  pub refused_when_broken : (k at : ℕ) → ◌iff◌ (Refused text room k at) (RefusedAs r k at)
  pub one_or_the_other : ((net : StatedNetwork) × States text net × Fitting room net) ⊎ ((k : ℕ) × (at : ℕ) × Refused text room k at)
