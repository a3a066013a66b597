-- What a text states, and when and where it is refused.
--   StatedNetwork      stations and legs
--   leg_of, legs_of    the leg that an arc line states, and those of all, in the order of their lines
--   balance_of         what the last node line for a station says, 0 without one
--   as_station         the station that has a balance
--   station_of, stations_of   the station of a number, and all
--   network_of         the network that the lines of a text make up
--   Spells             lines, newest first, and the rows that spell them, in the order of the text
--   Lawful             every line keeps order, ranges and count, by the lines before it
--   Roomy              the tables suffice for every line
--   Complete           a problem line came, and as many arc lines as it announced
--   States             a text and the network that it states
--   Fitting            tables that are at least as long as a network
--   TooLong, FaultAt, EndsEarly   the three ways in which a text is refused
--   Refused            a text and the number and place of its refusal
use Rattle.std.specs.Prelude.{◌≡◌, ℕ, ◌+◌, ◌-◌, ◌<◌, ◌≤◌, cond, ◌⊎◌, List, [], ◌∷◌, ◌++◌, map, length, ℤ, pos, ◌==◌}
use Rattle.std.specs.List.{range_with_len}
use Rattle.records.specs.declared.leg.Leg.{Leg}
use Rattle.records.specs.declared.leg.Mark.TheVariants.{Open}
use Rattle.records.specs.declared.station.Station.{Station}
use Rattle.lines.specs.Grammar.{Written}
use Rattle.lines.specs.declared.line.Line.{Line}
use Rattle.lines.specs.declared.line.Line.TheVariants.{Comment, Problem, Node, Arc}
use Rattle.text_rules.specs.Rows.{Parted}
use Rattle.text_rules.specs.Rules.{NODES, ARCS, Announced, arc_lines, InOrder, InRange, InCount, HasRoom, Lowest}
use Rattle.text_rules.specs.declared.progress.Room.{Room}

pub record StatedNetwork : Type 0 where
  pub stations : List Station
  pub legs : List Leg

-- ID k is station k − 1, and a leg that is read is open
abbrev pub leg_of : ℕ → ℕ → ℕ → ℕ → Leg
leg_of source target capacity cost =
    record { start = source - 1; end = target - 1; capacity = capacity; charge = cost; mark = Open }

abbrev pub legs_of : List Line → List Leg
legs_of [] = []
legs_of (Comment ∷ before) = legs_of before
legs_of (Problem nodes arcs ∷ before) = legs_of before
legs_of (Node id flow ∷ before) = legs_of before
legs_of (Arc source target low capacity cost ∷ before) = legs_of before ++ (leg_of source target capacity cost ∷ [])

abbrev pub balance_of : List Line → ℕ → ℤ
balance_of [] station = pos 0
balance_of (Comment ∷ before) station = balance_of before station
balance_of (Problem nodes arcs ∷ before) station = balance_of before station
balance_of (Node id flow ∷ before) station = cond (id == station + 1) flow (balance_of before station)
balance_of (Arc source target low capacity cost ∷ before) station = balance_of before station

-- a station that has nothing but a balance
abbrev pub as_station : ℤ → Station
as_station z = record { balance = z }

abbrev pub station_of : List Line → ℕ → Station
station_of lines k = as_station (balance_of lines k)

abbrev pub stations_of : List Line → List Station
stations_of lines = map (station_of lines) (range_with_len 0 (NODES lines))

abbrev pub network_of : List Line → StatedNetwork
network_of lines = record { stations = stations_of lines; legs = legs_of lines }

-- the newest line is spelled by the last row
abbrev pub Spells : List Line → List (List ℕ) → Type 0
Spells [] rows = rows ≡ []
Spells (l ∷ before) rows =
    (earlier : List (List ℕ)) × (row : List ℕ) × (rows ≡ earlier ++ (row ∷ [])) × Spells before earlier × Written l row

abbrev pub Lawful : List Line → Type 0
Lawful [] = Unit {0}
Lawful (l ∷ before) = InOrder before l × InRange before l × InCount before l × Lawful before

-- the tables suffice for every line
abbrev pub Roomy : Room → List Line → Type 0
Roomy room [] = Unit {0}
Roomy room (l ∷ before) = HasRoom room l × Roomy room before

-- a problem line came, and as many arc lines as it announced
abbrev pub Complete : List Line → Type 0
Complete lines = Announced lines × (arc_lines lines ≡ ARCS lines)

pub record States (text : List ℕ) (net : StatedNetwork) : Type 0 where
  pub short : length text ≤ 65536
  pub rows : List (List ℕ)
  pub parted : Parted rows text
  pub lines : List Line
  pub spelled : Spells lines rows
  pub lawful : Lawful lines
  pub complete : Complete lines
  pub same : net ≡ network_of lines

-- the handed tables are at least as long as the network
abbrev pub Fitting : Room → StatedNetwork → Type 0
Fitting room net = (length net.stations ≤ room.stations) × (length net.legs ≤ room.legs)

-- the lines before a row keep every rule, and the row is the first that breaks one: k is the lowest
pub record FaultAt (text : List ℕ) (room : Room) (k place : ℕ) : Type 0 where
  pub short : length text ≤ 65536
  pub before : List Line
  pub earlier : List (List ℕ)
  pub row : List ℕ
  pub later : List (List ℕ)
  pub parted : Parted (earlier ++ (row ∷ later)) text
  pub spelled : Spells before earlier
  pub lawful : Lawful before
  pub roomy : Roomy room before
  pub lowest : Lowest room before row k
  pub placed : place ≡ length before + 1

-- every line keeps every rule, and the text ends too early: the place is the last line, 0 without one
pub record EndsEarly (text : List ℕ) (room : Room) (k place : ℕ) : Type 0 where
  pub short : length text ≤ 65536
  pub lines : List Line
  pub rows : List (List ℕ)
  pub parted : Parted rows text
  pub spelled : Spells lines rows
  pub lawful : Lawful lines
  pub roomy : Roomy room lines
  pub incomplete : Complete lines → ⊥
  pub numbered : k ≡ 6
  pub placed : place ≡ length lines

abbrev pub TooLong : List ℕ → ℕ → ℕ → Type 0
TooLong text k place = (65536 < length text) × (k ≡ 1) × (place ≡ 0)

abbrev pub Refused : List ℕ → Room → ℕ → ℕ → Type 0
Refused text room k place = TooLong text k place ⊎ (FaultAt text room k place ⊎ EndsEarly text room k place)
