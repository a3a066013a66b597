-- A call below is the same call above.
use Rattle.std.proofs.Common.{◌≡◌, ℕ, ◌*◌, ◌<◌, ◌≤◌, Bool, true, false, cond, eqb, ltb, List, [], ◌∷◌, ◌++◌, map, length, get_or, take, set, ℤ, pos, Some, None, Ok, Err, Option, Result, sym, refl, ap, ◌∙◌, ⊎_elim, arith}
use Rattle.std.specs.List.{range_with_len}
use Rattle.std.proofs.lemmas.List.FromFn.{fill_by_all, get_or-map-range_with_len, map-range_with_len_more}
use Rattle.std.proofs.lemmas.List.{get_or_append_left, length-map, length_push, length-set, map-append, set-append_left, take_at}
use Rattle.std.proofs.lemmas.Bool.{cases_lt, cond-false, cond-true, le-ltb, lt-ltb}
use Rattle.records.specs.Cleared.{cleared_leg}
use Rattle.records.specs.declared.leg.Leg.{Leg}
use Rattle.records.specs.declared.leg.Mark.{Mark}
use Rattle.records.specs.declared.refusal.Refusal.{Refusal}
use Rattle.network.specs.Nets.{Net, Rule, Within, marks_of}
use Rattle.network.specs.Offices.{Marks, Reports, balance_after, balances_after, has_mark, mark_fault, remarked, report_fault, reported, with_mark}
use Rattle.network.proofs.Faults.{mark_road}
use Rattle.network.proofs.Places.{nth_left}
use Rattle.network.proofs.Reported.{length_after}
use Rattle.yard.specs.Yards.{full, with_yard, yard_balance, yard_leg, yard_rule, yarded}
use Rattle.yard.proofs.Answered.{same_open}

-- a report over balances bs and marks ks with a yard's balance y and its marks js beside them
module _ (a : ℕ) (rule : Rule) (bs : List ℤ) (ks js : List Mark) (y : ℤ) (s : ℕ) (b : ℤ) (among : a ≤ length bs) where
  -- what the yard's rule is asked with is what lies below
  front_balances : take (length bs) (bs ++ y ∷ []) ≡ bs
  front_balances = take_at bs (y ∷ []) (length bs) refl

  front_marks : take (length ks) (ks ++ js) ≡ ks
  front_marks = take_at ks js (length ks) refl

  at_front : (v : ℕ) → rule (take (length bs) (bs ++ y ∷ [])) (take (length ks) (ks ++ js)) s b v ≡ rule bs ks s b v
  at_front v = ap (λ (x : List ℤ). rule x (take (length ks) (ks ++ js)) s b v) front_balances ∙ ap (λ (x : List Mark). rule bs x s b v) front_marks

  all_front : balances_after a rule (take (length bs) (bs ++ y ∷ [])) (take (length ks) (ks ++ js)) s b ≡ balances_after a rule bs ks s b
  all_front = ap (λ (x : List ℤ). balances_after a rule x (take (length ks) (ks ++ js)) s b) front_balances ∙ ap (λ (x : List Mark). balances_after a rule bs x s b) front_marks

  -- a station below
  station_same : (v : ℕ) → v < length bs
      → balance_after a (yard_rule (length bs) (length ks) a rule) (bs ++ y ∷ []) (ks ++ js) s b v ≡ balance_after a rule bs ks s b v
  station_same v h =
      ap (λ (x : ℤ). cond (ltb v a) (cond (eqb v s) b x) (yard_rule (length bs) (length ks) a rule (bs ++ y ∷ []) (ks ++ js) s b v)) (get_or_append_left bs (y ∷ []) (pos 0) v h)
      ∙ ap (λ (x : ℤ). cond (ltb v a) (cond (eqb v s) b (get_or bs v (pos 0))) x) (cond-true (ltb v (length bs)) _ _ (lt-ltb v (length bs) h) ∙ at_front v)

  -- the yard itself
  yard_same : balance_after a (yard_rule (length bs) (length ks) a rule) (bs ++ y ∷ []) (ks ++ js) s b (length bs) ≡ yard_balance (balances_after a rule bs ks s b)
  yard_same =
      cond-false (ltb (length bs) a) _ _ (le-ltb (length bs) a among)
      ∙ cond-false (ltb (length bs) (length bs)) _ _ (le-ltb (length bs) (length bs) (omega arith))
      ∙ ap yard_balance all_front

  -- all stations
  stations_same : balances_after a rule bs ks s b ++ yard_balance (balances_after a rule bs ks s b) ∷ []
      ≡ balances_after a (yard_rule (length bs) (length ks) a rule) (bs ++ y ∷ []) (ks ++ js) s b
  stations_same =
      let f : ℕ → ℤ = balance_after a (yard_rule (length bs) (length ks) a rule) (bs ++ y ∷ []) (ks ++ js) s b in
      let g : ℕ → ℤ = balance_after a rule bs ks s b in
      let front : balances_after a rule bs ks s b ≡ map f (range_with_len 0 (length bs)) =
      fill_by_all f (balances_after a rule bs ks s b) (length bs) (pos 0) (length_after a rule bs ks s b)
      (λ k h. get_or-map-range_with_len g 0 (length bs) k k (pos 0) h (omega arith) ∙ sym (station_same k h)) in
      ap (λ (v : List ℤ). v ++ yard_balance (balances_after a rule bs ks s b) ∷ []) front
      ∙ ap (λ (z : ℤ). map f (range_with_len 0 (length bs)) ++ z ∷ []) (sym yard_same)
      ∙ sym (map-range_with_len_more f 0 (length bs) (length bs) (omega arith))
      ∙ ap (λ (n : ℕ). map f (range_with_len 0 n)) (sym (length_push bs y))

-- the same, of a network with room
module _ (charge : ℕ) (n : Net) (w : Within n) where
  -- a yard's network, by its count of stations and its balances
  abbrev built : ℕ → List ℤ → Net
  built k v = record {
    legs = n.legs ++ map (yard_leg charge k) (range_with_len 0 (2 * k));
    balances = v;
    open_stations = n.open_stations;
    road_legs = n.road_legs;
    rule = yard_rule k (length n.legs) n.open_stations n.rule;
  }

  room_report : (s : ℕ) (b : ℤ) → yarded charge (reported n s b) ≡ reported (yarded charge n) s b
  room_report s b =
      let bs : List ℤ = n.balances in
      let ks : List Mark = marks_of n.legs in
      let a : ℕ = n.open_stations in
      let yl : List Leg = map (yard_leg charge (length bs)) (range_with_len 0 (2 * length bs)) in
      let after : List ℤ = balances_after a n.rule bs ks s b in
      let above : List ℤ = bs ++ yard_balance bs ∷ [] in
      ap (λ (k : ℕ). built k (after ++ yard_balance after ∷ [])) (length_after a n.rule bs ks s b)
      ∙ ap (built (length bs))
      (stations_same a n.rule bs ks (marks_of yl) (yard_balance bs) s b w.open_among
      ∙ ap (λ (m : ℕ). balances_after a (yard_rule (length bs) m a n.rule) above (ks ++ marks_of yl) s b) (length-map n.legs (λ (l : Leg). l.mark))
      ∙ ap (λ (v : List Mark). balances_after a (yard_rule (length bs) (length n.legs) a n.rule) above v s b) (sym (map-append (λ (l : Leg). l.mark) n.legs yl)))

  room_mark : (i : ℕ) (k : Mark) → i < length n.legs → yarded charge (remarked n i k) ≡ remarked (yarded charge n) i k
  room_mark i k h =
      let yl : List Leg = map (yard_leg charge (length n.balances)) (range_with_len 0 (2 * length n.balances)) in
      let l : Leg = with_mark k (get_or n.legs i cleared_leg) in
      ap (λ (m : ℕ). let z : Net = record {
        legs = set n.legs i l ++ yl;
        balances = n.balances ++ yard_balance n.balances ∷ [];
        open_stations = n.open_stations;
        road_legs = n.road_legs;
        rule = yard_rule (length n.balances) m n.open_stations n.rule;
      } in z) (length-set n.legs i l)
      ∙ ap (λ (v : List Leg). let z : Net = record {
        legs = v;
        balances = n.balances ++ yard_balance n.balances ∷ [];
        open_stations = n.open_stations;
        road_legs = n.road_legs;
        rule = yard_rule (length n.balances) (length n.legs) n.open_stations n.rule;
      } in z)
      (sym (set-append_left n.legs yl i l h)
      ∙ ap (λ (x : Leg). set (n.legs ++ yl) i (with_mark k x)) (sym (get_or_append_left n.legs yl cleared_leg i h)))

  -- with room or without
  either_report : (t : Bool) (s : ℕ) (b : ℤ) → cond t (reported n s b) (yarded charge (reported n s b)) ≡ reported (cond t n (yarded charge n)) s b
  either_report true s b = refl
  either_report false s b = room_report s b

  either_mark : (t : Bool) (i : ℕ) (k : Mark) → i < length n.legs → cond t (remarked n i k) (yarded charge (remarked n i k)) ≡ remarked (cond t n (yarded charge n)) i k
  either_mark true i k h = refl
  either_mark false i k h = room_mark i k h

  same_report : (s : ℕ) (b : ℤ) → with_yard charge (reported n s b) ≡ reported (with_yard charge n) s b
  same_report s b =
      ap (λ (x : ℕ). cond (full x (length n.legs)) (reported n s b) (yarded charge (reported n s b))) (length_after n.open_stations n.rule n.balances (marks_of n.legs) s b)
      ∙ either_report (full (length n.balances) (length n.legs)) s b

  same_mark : (i : ℕ) (k : Mark) → i < length n.legs → with_yard charge (remarked n i k) ≡ remarked (with_yard charge n) i k
  same_mark i k h =
      ap (λ (x : ℕ). cond (full (length n.balances) x) (remarked n i k) (yarded charge (remarked n i k))) (length-set n.legs i (with_mark k (get_or n.legs i cleared_leg)))
      ∙ either_mark (full (length n.balances) (length n.legs)) i k h

  -- the fault of a leg is what it is below
  room_fault : (ls : List Leg) (i : ℕ) (k : Mark) → mark_fault n.road_legs (n.legs ++ ls) i k ≡ mark_fault n.road_legs n.legs i k
  room_fault ls i k =
      ⊎_elim
      (λ (h : i < n.road_legs). ap (λ (o : Option Leg). cond (ltb i n.road_legs) (cond (has_mark o k) (Some (10, i)) None) (Some (9, i))) (nth_left n.legs ls i (omega (arith, w.roads_among))))
      (λ (h : n.road_legs ≤ i). cond-false (ltb i n.road_legs) _ _ (le-ltb i n.road_legs h) ∙ sym (cond-false (ltb i n.road_legs) _ _ (le-ltb i n.road_legs h)))
      (cases_lt i n.road_legs)

  either_fault : (t : Bool) (i : ℕ) (k : Mark)
      → mark_fault (cond t n (yarded charge n)).road_legs (cond t n (yarded charge n)).legs i k ≡ mark_fault n.road_legs n.legs i k
  either_fault true i k = refl
  either_fault false i k = room_fault (map (yard_leg charge (length n.balances)) (range_with_len 0 (2 * length n.balances))) i k

  -- the calls
  pub reports_above : (r : Result (Unit {0}) Refusal) (m : Net) (s : ℕ) (b : ℤ) → Reports r n m s b → Reports r (with_yard charge n) (with_yard charge m) s b
  reports_above (Ok u) m s b h = (ap (λ (a : ℕ). report_fault a s b) (sym (same_open charge n)) ∙ h.0, ap (with_yard charge) h.1 ∙ same_report s b)
  reports_above (Err e) m s b h = (ap (λ (a : ℕ). report_fault a s b) (sym (same_open charge n)) ∙ h.0, ap (with_yard charge) h.1)

  pub marks_above : (r : Result (Unit {0}) Refusal) (m : Net) (i : ℕ) (k : Mark) → Marks r n m i k → Marks r (with_yard charge n) (with_yard charge m) i k
  marks_above (Ok u) m i k h =
      let l : i < length n.legs = omega (arith, mark_road n.road_legs n.legs i k h.0, w.roads_among) in
      (either_fault (full (length n.balances) (length n.legs)) i k ∙ h.0, ap (with_yard charge) h.1 ∙ same_mark i k l)
  marks_above (Err e) m i k h = (either_fault (full (length n.balances) (length n.legs)) i k ∙ h.0, ap (with_yard charge) h.1)
