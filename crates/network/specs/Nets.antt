-- What a network means.
--   Rule       what stations that are not open have after a report
--   Net        the meaning of a network: legs with marks, balances, two counts and a rule
--   marks_of   the marks of legs, in their order
--   total      the sum of balances
--   unasked    the rule of a network whose stations are all open
--   Within     the limits of every network
use Rattle.std.specs.Prelude.{ℕ, ◌≤◌, List, map, length, ℤ, pos, ◌+ℤ◌, fold}
use Rattle.records.specs.declared.leg.Leg.{Leg}
use Rattle.records.specs.declared.leg.Mark.{Mark}

-- from the balances and the marks before, the station that reports, the number that it reports
-- and the station asked for: the balance of that station after the report
abbrev pub Rule : Type 0
Rule = List ℤ → List Mark → ℕ → ℤ → ℕ → ℤ

-- stations below `open_stations` are open, legs below `road_legs` are road legs
pub record Net : Type 0 where
  pub legs : List Leg
  pub balances : List ℤ
  pub open_stations : ℕ
  pub road_legs : ℕ
  pub rule : Rule

-- the marks alone
abbrev pub marks_of : List Leg → List Mark
marks_of ls = map (λ (l : Leg). l.mark) ls

-- one balance after the other is added
abbrev pub total : List ℤ → ℤ
total bs = fold ◌+ℤ◌ (pos 0) bs

-- it is asked for no station
abbrev pub unasked : Rule
unasked bs ks s b v = pos 0

-- at most 240 stations and 3,000 legs; the open stations and the road legs are among them
pub record Within (n : Net) : Type 0 where
  pub few_stations : length n.balances ≤ 240
  pub few_legs : length n.legs ≤ 3000
  pub open_among : n.open_stations ≤ length n.balances
  pub roads_among : n.road_legs ≤ length n.legs
