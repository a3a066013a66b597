-- Records that hold nothing.
--   cleared_leg, cleared_station   zeros, and open
use Rattle.std.specs.Prelude.{pos}
use Rattle.records.specs.declared.leg.Leg.{Leg}
use Rattle.records.specs.declared.leg.Mark.TheVariants.{Open}
use Rattle.records.specs.declared.station.Station.{Station}

-- a leg record that holds no leg
abbrev pub cleared_leg : Leg
cleared_leg = record { start = 0; end = 0; capacity = 0; charge = 0; mark = Open }

-- a station record that holds no station
abbrev pub cleared_station : Station
cleared_station = record { balance = pos 0 }
