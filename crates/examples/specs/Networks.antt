-- The networks of the worked examples.
--   open_leg          an open leg by its start, end, capacity and charge
--   station           a station by its balance
--   T_legs, U_legs    the legs of the two networks of three stations
--   three_stations    the stations of both: 4 bikes to spare at station 0, 4 lacking at station 2
--   T                 the way over station 1 is cheaper than the direct leg
--   U                 both ways cost the same
--   T_shut            T after leg 1 is closed
--   U_shut            U after leg 2 is closed
--   T_limited         T under a van limit of 3 bikes
--   lone              one station with 3 bikes to spare, and no leg
--   lone_yard         that station with a yard, at 25 cents a bike
use Rattle.std.specs.Prelude.{List, [], ◌∷◌, ℕ, ℤ, pos, negsuc}
use Rattle.records.specs.declared.leg.Leg.{Leg}
use Rattle.records.specs.declared.leg.Mark.TheVariants.{Open, Shut}
use Rattle.records.specs.declared.station.Station.{Station}
use Rattle.network.specs.Nets.{Net, unasked}
use Rattle.network.specs.Offices.{remarked}
use Rattle.van_limit.specs.Limited.{limited}
use Rattle.yard.specs.Yards.{with_yard}

-- start, end, capacity, charge
abbrev pub open_leg : ℕ → ℕ → ℕ → ℕ → Leg
open_leg start end capacity charge = record { start = start; end = end; capacity = capacity; charge = charge; mark = Open }

abbrev pub station : ℤ → Station
station b = record { balance = b }

-- 20 and 10 cents over station 1, 40 cents directly
abbrev pub T_legs : List Leg
T_legs = open_leg 0 1 4 20 ∷ open_leg 1 2 4 10 ∷ open_leg 0 2 3 40 ∷ []

-- 20 and 10 cents over station 1, 30 cents directly
abbrev pub U_legs : List Leg
U_legs = open_leg 0 1 4 20 ∷ open_leg 1 2 4 10 ∷ open_leg 0 2 3 30 ∷ []

-- balances 4, 0 and -4
abbrev pub three_stations : List Station
three_stations = station (pos 4) ∷ station (pos 0) ∷ station (negsuc 3) ∷ []

abbrev pub T : Net
T = record { legs = T_legs; balances = pos 4 ∷ pos 0 ∷ negsuc 3 ∷ []; open_stations = 3; road_legs = 3; rule = unasked }

abbrev pub U : Net
U = record { legs = U_legs; balances = pos 4 ∷ pos 0 ∷ negsuc 3 ∷ []; open_stations = 3; road_legs = 3; rule = unasked }

-- nothing leads from station 1 to station 2
abbrev pub T_shut : Net
T_shut = remarked T 1 Shut

-- nothing leads directly from station 0 to station 2
abbrev pub U_shut : Net
U_shut = remarked U 2 Shut

-- every leg carries 3 bikes at most
abbrev pub T_limited : Net
T_limited = limited 3 T

abbrev pub lone : Net
lone = record { legs = []; balances = pos 3 ∷ []; open_stations = 1; road_legs = 0; rule = unasked }

-- the yard is station 1 and lacks 3 bikes; leg 0 leads to it and leg 1 back, each for up to 500 bikes
abbrev pub lone_yard : Net
lone_yard = with_yard 25 lone
