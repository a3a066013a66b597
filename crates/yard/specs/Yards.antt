-- What a yard makes of a network.
--   held           a number held within -120,000 to 120,000
--   yard_balance   the balance of a yard over stations with these balances
--   yard_leg       one of the legs that a yard adds, by its number among them
--   yard_rule      what stations that are not open have after a report
--   yarded         a network with a yard
--   full           there is no room for a yard
--   with_yard      a network with a yard, or the network itself where that is full
--   yard_within    it keeps the limits of every network
use Rattle.std.specs.Prelude.{◌≡◌, ℕ, ◌+◌, ◌*◌, ◌/◌, ◌%◌, Bool, false, cond, ◌||◌, List, [], ◌∷◌, ◌++◌, map, length, take, ℤ, pos, negsuc, neg_ℤ, ◌==◌, int_lt, nat_lt}
use Rattle.std.proofs.Common.{arith}
use Rattle.std.specs.List.{range_with_len}
use Rattle.std.proofs.lemmas.List.FromFn.{length-map-range_with_len}
use Rattle.std.proofs.lemmas.List.{length-append, length_push}
use Rattle.std.proofs.lemmas.Bool.{cond_both, or_parts, eqb-false, ltb-false}
use Rattle.records.specs.declared.leg.Leg.{Leg}
use Rattle.records.specs.declared.leg.Mark.TheVariants.{Open}
use Rattle.network.specs.Nets.{Net, Rule, Within, total}
use Rattle.network.specs.Offices.{balances_after}

-- the nearer limit where it is outside
abbrev pub held : ℤ → ℤ
held z = cond (int_lt z (negsuc 119999)) (negsuc 119999) (cond (int_lt (pos 120000) z) (pos 120000) z)

-- the negated sum of all balances below, held
abbrev pub yard_balance : List ℤ → ℤ
yard_balance bs = held (neg_ℤ (total bs))

-- over n stations: leg 2v goes from station v to the yard, which is station n, and leg 2v + 1 goes back
abbrev pub yard_leg : ℕ → ℕ → ℕ → Leg
yard_leg charge n j = record {
  start = cond (j % 2 == 0) (j / 2) n;
  end = cond (j % 2 == 0) n (j / 2);
  capacity = 500;
  charge = charge;
  mark = Open;
}

-- a station below has what the rule below says, of the balances and marks below;
-- the yard has the yard balance of all the balances that are below after the report
abbrev pub yard_rule : ℕ → ℕ → ℕ → Rule → Rule
yard_rule n m a rule bs ks s b v =
    cond (nat_lt v n) (rule (take n bs) (take m ks) s b v) (yard_balance (balances_after a rule (take n bs) (take m ks) s b))

-- one station and two legs for each station below are added
abbrev pub yarded : ℕ → Net → Net
yarded charge n = record {
  legs = n.legs ++ map (yard_leg charge (length n.balances)) (range_with_len 0 (2 * length n.balances));
  balances = n.balances ++ yard_balance n.balances ∷ [];
  open_stations = n.open_stations;
  road_legs = n.road_legs;
  rule = yard_rule (length n.balances) (length n.legs) n.open_stations n.rule;
}

-- n stations and m legs: 240 stations, or the legs would be more than 3,000
abbrev pub full : ℕ → ℕ → Bool
full n m = n == 240 || nat_lt 3000 (m + 2 * n)

-- a full network is left as it is
abbrev pub with_yard : ℕ → Net → Net
with_yard charge n = cond (full (length n.balances) (length n.legs)) n (yarded charge n)

-- where there is room, the limits are kept
room_within : (charge : ℕ) (n : Net) → Within n → full (length n.balances) (length n.legs) ≡ false → Within (yarded charge n)
room_within charge n w e =
    let f : ℕ → Leg = yard_leg charge (length n.balances) in
    let p = or_parts (length n.balances == 240) (nat_lt 3000 (length n.legs + 2 * length n.balances)) e in
    let d = eqb-false (length n.balances) 240 p.0 in
    let l = ltb-false 3000 (length n.legs + 2 * length n.balances) p.1 in
    let bl = length_push n.balances (yard_balance n.balances) in
    let ll = length-append n.legs (map f (range_with_len 0 (2 * length n.balances))) in
    let cl = length-map-range_with_len f 0 (2 * length n.balances) in
    record {
      few_stations = omega (arith, w.few_stations);
      few_legs = omega (arith, w.few_legs);
      open_among = omega (arith, w.open_among);
      roads_among = omega (arith, w.roads_among);
    }

-- the limits are kept with a yard and without
pub yard_within : (charge : ℕ) (n : Net) → Within n → Within (with_yard charge n)
yard_within charge n w =
    cond_both (full (length n.balances) (length n.legs)) n (yarded charge n) Within (λ e. w) (λ e. room_within charge n w e)
