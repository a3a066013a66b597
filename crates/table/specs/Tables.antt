-- What a table of lent records means.
--   balances_of    the balances of station records, in their order
--   table_of       the network that the first 3,000 legs and the first 240 stations state
--   table_within   it keeps the limits
use Rattle.std.specs.Prelude.{List, map, length, take, ℤ}
use Rattle.std.proofs.Common.{arith}
use Rattle.std.proofs.lemmas.List.{length-map, length-take}
use Rattle.network.specs.Nets.{Net, Within, unasked}
use Rattle.records.specs.declared.leg.Leg.{Leg}
use Rattle.records.specs.declared.station.Station.{Station}

-- the balances alone
abbrev pub balances_of : List Station → List ℤ
balances_of ss = map (λ (s : Station). s.balance) ss

-- every station is open and every leg is a road leg
abbrev pub table_of : List Leg → List Station → Net
table_of ls ss = record {
  legs = take 3000 ls;
  balances = balances_of (take 240 ss);
  open_stations = length (take 240 ss);
  road_legs = length (take 3000 ls);
  rule = unasked;
}

-- no more than 3,000 legs and 240 stations are counted
pub table_within : (ls : List Leg) (ss : List Station) → Within (table_of ls ss)
table_within ls ss = record {
  few_stations = simp (length-map, length-take) (omega arith);
  few_legs = simp length-take (omega arith);
  open_among = simp length-map (omega arith);
  roads_among = omega arith;
}
