-- What a board's fields stand for.
--   seen       a tally from a network's meaning, amounts that may be more than there are legs, and the two lists
--   tally_of   the tally of a board, under the meaning of its network
use Rattle.std.specs.Prelude.{ℕ, List, length, take}
use Rattle.network.specs.Nets.{Net}
use Rattle.tally.specs.Tallies.{Tally}
use Rattle.board.specs.declared.board.Board.{Board}

abbrev pub seen : Net → List ℕ → List ℕ → List ℕ → Tally
seen net amounts stations runs = record { meaning = net; plan = take (length net.legs) amounts; station_list = stations; run_list = runs }

abbrev pub tally_of : {N : Type 0} → (N → Net) → Board N → Tally
tally_of meaning b = seen (meaning b.net) b.plan b.stations b.runs
