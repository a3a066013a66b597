-- What a promenade means: stations in a row, with a leg each way between neighbours.
--   promenade_leg      a leg of the row by its number, under a mark
--   row_legs           how many legs a row of stations has
--   promenade          a row with these balances and these marks
--   fresh              a row at its making
--   promenade_within   it keeps the limits of every network
use Rattle.std.specs.Prelude.{ℕ, ◌+◌, ◌-◌, ◌*◌, ◌/◌, ◌%◌, ◌≤◌, cond, List, map, get_or, ℤ, pos, ◌==◌, slice_index_or}
use Rattle.std.proofs.Common.{arith}
use Rattle.std.specs.List.{range_with_len}
use Rattle.std.proofs.lemmas.List.FromFn.{length-map-range_with_len}
use Rattle.records.specs.declared.leg.Leg.{Leg}
use Rattle.records.specs.declared.leg.Mark.{Mark}
use Rattle.records.specs.declared.leg.Mark.TheVariants.{Open}
use Rattle.network.specs.Nets.{Net, Within, unasked}

-- leg 2i goes from station i to station i + 1, and leg 2i + 1 goes back
abbrev pub promenade_leg : ℕ → ℕ → Mark → ℕ → Leg
promenade_leg capacity charge k j = record {
  start = cond (j % 2 == 0) (j / 2) (j / 2 + 1);
  end = cond (j % 2 == 0) (j / 2 + 1) (j / 2);
  capacity = capacity;
  charge = charge;
  mark = k;
}

-- two for each station but the last; none for one station or for no station
abbrev pub row_legs : ℕ → ℕ
row_legs stations = 2 * (stations - 1)

-- station v has the balance at place v, and leg j the mark at place j; every station is open and every leg a road leg
abbrev pub promenade : ℕ → ℕ → ℕ → List ℤ → List Mark → Net
promenade stations capacity charge bs ks = record {
  legs = map (λ (j : ℕ). promenade_leg capacity charge (slice_index_or ks j Open) j) (range_with_len 0 (row_legs stations));
  balances = map (λ (v : ℕ). get_or bs v (pos 0)) (range_with_len 0 stations);
  open_stations = stations;
  road_legs = row_legs stations;
  rule = unasked;
}

-- all balances are 0 and all legs are open
abbrev pub fresh : ℕ → ℕ → ℕ → Net
fresh stations capacity charge = record {
  legs = map (promenade_leg capacity charge Open) (range_with_len 0 (row_legs stations));
  balances = map (λ (v : ℕ). pos 0) (range_with_len 0 stations);
  open_stations = stations;
  road_legs = row_legs stations;
  rule = unasked;
}

-- 40 stations have 78 legs
pub promenade_within : (stations capacity charge : ℕ) (bs : List ℤ) (ks : List Mark) → stations ≤ 40 → Within (promenade stations capacity charge bs ks)
promenade_within stations capacity charge bs ks h =
    let p = length-map-range_with_len (λ (v : ℕ). get_or bs v (pos 0)) 0 stations in
    let q = length-map-range_with_len (λ (j : ℕ). promenade_leg capacity charge (slice_index_or ks j Open) j) 0 (row_legs stations) in
    record {
      few_stations = omega arith;
      few_legs = omega arith;
      open_among = omega arith;
      roads_among = omega arith;
    }
