-- What a board holds, as the rules see it.
--   Tally           network, standing plan, station list and run list
--   fresh           the tally of a new board
--   with_meaning, with_plan, with_stations, with_runs   a tally with one part changed
--   short           whether a station is short
--   runs            whether a leg runs
--   short_list      the station list that a listing hands out
--   running_list    the run list that a listing hands out
--   standing        the standing amount of a leg, as it is read
use Rattle.std.specs.Prelude.{ℕ, Bool, cond, List, [], length, replicate, pos, Some, None, Option, int_lt, nat_lt}
use Rattle.network.specs.Nets.{Net}
use Rattle.plans.specs.Plans.{amount, balance_at}
use Rattle.listing.specs.Lists.{listed}

-- the lists are those that were handed out last
pub record Tally : Type 0 where
  pub meaning : Net
  pub plan : List ℕ
  pub station_list : List ℕ
  pub run_list : List ℕ

-- every amount is 0, and the lists are empty
abbrev pub fresh : Net → Tally
fresh net = record { meaning = net; plan = replicate (length net.legs) 0; station_list = []; run_list = [] }

abbrev pub with_meaning : Tally → Net → Tally
with_meaning t net = record { meaning = net; plan = t.plan; station_list = t.station_list; run_list = t.run_list }

abbrev pub with_plan : Tally → List ℕ → Tally
with_plan t plan = record { meaning = t.meaning; plan = plan; station_list = t.station_list; run_list = t.run_list }

abbrev pub with_stations : Tally → List ℕ → Tally
with_stations t vs = record { meaning = t.meaning; plan = t.plan; station_list = vs; run_list = t.run_list }

abbrev pub with_runs : Tally → List ℕ → Tally
with_runs t ks = record { meaning = t.meaning; plan = t.plan; station_list = t.station_list; run_list = ks }

-- its balance is below 0
abbrev pub short : Net → ℕ → Bool
short net v = int_lt (balance_at net v) (pos 0)

-- its amount is above 0
abbrev pub runs : List ℕ → ℕ → Bool
runs plan k = nat_lt 0 (amount plan k)

-- of the open stations, following the last station list
abbrev pub short_list : Tally → List ℕ
short_list t = listed (short t.meaning) t.meaning.open_stations t.station_list

-- of all legs, following the last run list
abbrev pub running_list : Tally → List ℕ
running_list t = listed (runs t.plan) (length t.meaning.legs) t.run_list

-- absent for a number that is not below the count of legs
abbrev pub standing : Tally → ℕ → Option ℕ
standing t k = cond (nat_lt k (length t.meaning.legs)) (Some (amount t.plan k)) None
