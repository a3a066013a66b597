-- A table that stands on what a text states.
--   net_of     the meaning of a network that a text states: every station open, every leg a road leg
--   Stands     a text, the room of the tables, and the meaning of the table that stands on it
--   Falls      a text that is refused, by the refusal
use Rattle.std.specs.Prelude.{◌≡◌, ℕ, List, length}
use Rattle.records.specs.Refusals.{number, place}
use Rattle.records.specs.declared.refusal.Refusal.{Refusal}
use Rattle.text_rules.specs.Stated.{StatedNetwork, States, Fitting, Refused}
use Rattle.text_rules.specs.declared.progress.Room.{Room}
use Rattle.network.specs.Nets.{Net, unasked}
use Rattle.table.specs.Tables.{balances_of}

abbrev pub net_of : StatedNetwork → Net
net_of net = record {
  legs = net.legs;
  balances = balances_of net.stations;
  open_stations = length net.stations;
  road_legs = length net.legs;
  rule = unasked;
}

-- the text states a network, the tables suffice for it, and it is the meaning
pub record Stands (text : List ℕ) (room : Room) (meaning : Net) : Type 0 where
  pub net : StatedNetwork
  pub stated : States text net
  pub fitting : Fitting room net
  pub meant : meaning ≡ net_of net

-- the text is refused so
abbrev pub Falls : List ℕ → Room → Refusal → Type 0
Falls text room e = Refused text room (number e) (place e)
