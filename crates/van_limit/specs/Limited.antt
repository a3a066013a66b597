-- What a van limit makes of a network.
--   limit_leg        a leg whose capacity is at most a limit
--   limited          a network whose legs all are so
--   limited_within   it keeps the limits of every network
use Rattle.std.specs.Prelude.{ℕ, min, map}
use Rattle.std.proofs.lemmas.List.{length-map}
use Rattle.records.specs.declared.leg.Leg.{Leg}
use Rattle.network.specs.Nets.{Net, Within}

-- the smaller of the leg's capacity and the limit; all else stays
abbrev pub limit_leg : ℕ → Leg → Leg
limit_leg limit l = record { start = l.start; end = l.end; capacity = min l.capacity limit; charge = l.charge; mark = l.mark }

-- every leg is limited; all else stays
abbrev pub limited : ℕ → Net → Net
limited limit n = record {
  legs = map (limit_leg limit) n.legs;
  balances = n.balances;
  open_stations = n.open_stations;
  road_legs = n.road_legs;
  rule = n.rule;
}

-- the counts stay
pub limited_within : (limit : ℕ) (n : Net) → Within n → Within (limited limit n)
limited_within limit n w = record {
  few_stations = w.few_stations;
  few_legs = rw (length-map n.legs (limit_leg limit)) w.few_legs;
  open_among = w.open_among;
  roads_among = rw (length-map n.legs (limit_leg limit)) w.roads_among;
}
