-- A call below is the same call above.
use Rattle.std.proofs.Common.{◌≡◌, ℕ, ◌<◌, Bool, cond, ltb, List, [], ◌∷◌, map, length, get_or, set, ℤ, Some, None, Ok, Err, Option, Result, sym, refl, ap, ◌∙◌, arith}
use Rattle.std.specs.Option.{option_map}
use Rattle.std.specs.List.{slice_get}
use Rattle.std.proofs.lemmas.List.{map-set, get_or-map}
use Rattle.records.specs.Cleared.{cleared_leg}
use Rattle.records.specs.declared.leg.Leg.{Leg}
use Rattle.records.specs.declared.leg.Mark.{Mark}
use Rattle.records.specs.declared.refusal.Refusal.{Refusal}
use Rattle.network.specs.Nets.{Net, Within, marks_of}
use Rattle.network.specs.Offices.{Reports, Marks, balances_after, has_mark, mark_fault, remarked, reported, with_mark}
use Rattle.network.proofs.Faults.{mark_road}
use Rattle.std.proofs.lemmas.Option.{slice_get-map}
use Rattle.van_limit.specs.Limited.{limit_leg, limited}

-- the marks stay
same_marks : (limit : ℕ) (ls : List Leg) → marks_of (map (limit_leg limit) ls) ≡ marks_of ls
same_marks limit [] = refl
same_marks limit (l ∷ ls) = ap (λ (ks : List Mark). l.mark ∷ ks) (same_marks limit ls)

has_same : (limit : ℕ) (o : Option Leg) (k : Mark) → has_mark (option_map (limit_leg limit) o) k ≡ has_mark o k
has_same limit None k = refl
has_same limit (Some l) k = refl

same_fault : (limit r : ℕ) (ls : List Leg) (i : ℕ) (k : Mark) → mark_fault r (map (limit_leg limit) ls) i k ≡ mark_fault r ls i k
same_fault limit r ls i k =
    ap (λ (t : Bool). cond (ltb i r) (cond t (Some (10, i)) None) (Some (9, i)))
    (ap (λ (o : Option Leg). has_mark o k) (slice_get-map (limit_leg limit) ls i) ∙ has_same limit (slice_get ls i) k)

same_report : (limit : ℕ) (n : Net) (s : ℕ) (b : ℤ) → limited limit (reported n s b) ≡ reported (limited limit n) s b
same_report limit n s b =
    ap (λ (ks : List Mark). let m : Net = record { legs = map (limit_leg limit) n.legs; balances = balances_after n.open_stations n.rule n.balances ks s b; open_stations = n.open_stations; road_legs = n.road_legs; rule = n.rule } in m)
    (sym (same_marks limit n.legs))

same_mark : (limit : ℕ) (n : Net) (i : ℕ) (k : Mark) → i < length n.legs → limited limit (remarked n i k) ≡ remarked (limited limit n) i k
same_mark limit n i k h =
    ap (λ (ls : List Leg). let m : Net = record { legs = ls; balances = n.balances; open_stations = n.open_stations; road_legs = n.road_legs; rule = n.rule } in m)
    (map-set (limit_leg limit) n.legs i (with_mark k (get_or n.legs i cleared_leg))
    ∙ ap (λ (l : Leg). set (map (limit_leg limit) n.legs) i (with_mark k l)) (sym (get_or-map (limit_leg limit) n.legs i cleared_leg cleared_leg h)))

pub reports_above : (limit : ℕ) (r : Result (Unit {0}) Refusal) (n m : Net) (s : ℕ) (b : ℤ) → Reports r n m s b → Reports r (limited limit n) (limited limit m) s b
reports_above limit (Ok u) n m s b h = (h.0, ap (limited limit) h.1 ∙ same_report limit n s b)
reports_above limit (Err e) n m s b h = (h.0, ap (limited limit) h.1)

pub marks_above : (limit : ℕ) (r : Result (Unit {0}) Refusal) (n m : Net) (i : ℕ) (k : Mark) → Within n → Marks r n m i k → Marks r (limited limit n) (limited limit m) i k
marks_above limit (Ok u) n m i k w h =
    let l : i < length n.legs = omega (arith, mark_road n.road_legs n.legs i k h.0, w.roads_among) in
    (same_fault limit n.road_legs n.legs i k ∙ h.0, ap (limited limit) h.1 ∙ same_mark limit n i k l)
marks_above limit (Err e) n m i k w h = (same_fault limit n.road_legs n.legs i k ∙ h.0, ap (limited limit) h.1)
