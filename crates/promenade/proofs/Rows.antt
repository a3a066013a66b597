-- Lists that are made place by place, and what one write does to a row.
use Rattle.std.proofs.Common.{◌≡◌, ℕ, zero, suc, ◌<◌, ◌≤◌, min, ◌≢◌, List, map, length, get_or, set, replicate, ℤ, pos, None, sym, refl, ap, ◌∙◌, ⊎_elim, arith, w32, SFits, to_z, of_z}
use Rattle.std.specs.List.{range_with_len}
use Rattle.std.proofs.lemmas.List.FromFn.{fill_by_all, get_or-map-range_with_len, length-map-range_with_len}
use Rattle.std.proofs.lemmas.List.{get_or-set_other, get_or-set_same, length-set}
use Rattle.std.proofs.lemmas.Int.{to_z-of_z}
use Rattle.std.proofs.lemmas.Bool.{cases_eq}
use Rattle.records.specs.Cleared.{cleared_leg}
use Rattle.records.specs.declared.leg.Leg.{Leg}
use Rattle.records.specs.declared.leg.Mark.{Mark}
use Rattle.records.specs.declared.leg.Mark.TheVariants.{Open}
use Rattle.network.specs.Nets.{Net, marks_of, unasked}
use Rattle.network.specs.Offices.{mark_fault, remarked, report_fault, reported, with_mark}
use Rattle.network.proofs.Faults.{mark_road, report_open}
use Rattle.network.proofs.Reported.{all_open}
use Rattle.promenade.specs.Promenades.{fresh, promenade, promenade_leg, row_legs}

-- two functions that agree at every place make one list
same_counted : {X : Type 0} (f g : ℕ → X) (n : ℕ) (d : X) → ((k : ℕ) → f k ≡ g k) → map f (range_with_len 0 n) ≡ map g (range_with_len 0 n)
same_counted f g n d e =
    fill_by_all g (map f (range_with_len 0 n)) n d (length-map-range_with_len f 0 n) (λ k h. get_or-map-range_with_len f 0 n k k d h (omega arith) ∙ e k)

-- a repeated value is read at every place
get_or_repeated : {X : Type 0} (n i : ℕ) (x : X) → get_or (replicate n x) i x ≡ x
get_or_repeated zero i x = refl
get_or_repeated (suc n) zero x = refl
get_or_repeated (suc n) (suc i) x = get_or_repeated n i x

-- one write to the values that a list is made from is one write to the list
counted_set : {X Y : Type 0} (f : X → ℕ → Y) (xs : List X) (d : X) (e : Y) (n i : ℕ) (x : X) → i < n → i < length xs
    → map (λ (j : ℕ). f (get_or (set xs i x) j d) j) (range_with_len 0 n) ≡ set (map (λ (j : ℕ). f (get_or xs j d) j) (range_with_len 0 n)) i (f x i)
counted_set {X} f xs d e n i x h l =
    let whole = map (λ (j : ℕ). f (get_or xs j d) j) (range_with_len 0 n) in
    let there : i < length whole = rw (length-map-range_with_len (λ (j : ℕ). f (get_or xs j d) j) 0 n) h in
    sym (fill_by_all (λ (j : ℕ). f (get_or (set xs i x) j d) j) (set whole i (f x i)) n e
    (length-set whole i (f x i) ∙ length-map-range_with_len (λ (j : ℕ). f (get_or xs j d) j) 0 n)
    (λ k m. ⊎_elim
    (λ (p : k ≡ i).
    ap (λ (j : ℕ). get_or (set whole i (f x i)) j e) p ∙ get_or-set_same whole i (f x i) e there
    ∙ ap (λ (z : X). f z i) (sym (get_or-set_same xs i x d l))
    ∙ ap (λ (j : ℕ). f (get_or (set xs i x) j d) j) (sym p))
    (λ (p : k ≢ i).
    get_or-set_other whole i k (f x i) e p ∙ get_or-map-range_with_len (λ (j : ℕ). f (get_or xs j d) j) 0 n k k e m (omega arith)
    ∙ ap (λ (z : X). f z k) (sym (get_or-set_other xs i k x d p)))
    (cases_eq k i)))

-- a new row
new_row : (stations capacity charge : ℕ) → promenade stations capacity charge (replicate 40 (pos 0)) (replicate 78 Open) ≡ fresh stations capacity charge
new_row stations capacity charge =
    ap (λ (ls : List Leg). let n : Net = record { legs = ls; balances = map (λ (v : ℕ). get_or (replicate 40 (pos 0)) v (pos 0)) (range_with_len 0 stations); open_stations = stations; road_legs = row_legs stations; rule = unasked } in n)
    (same_counted (λ (j : ℕ). promenade_leg capacity charge (get_or (replicate 78 Open) j Open) j) (promenade_leg capacity charge Open) (row_legs stations) cleared_leg
    (λ k. ap (λ (m : Mark). promenade_leg capacity charge m k) (get_or_repeated 78 k Open)))
    ∙ ap (λ (bs : List ℤ). let n : Net = record { legs = map (promenade_leg capacity charge Open) (range_with_len 0 (row_legs stations)); balances = bs; open_stations = stations; road_legs = row_legs stations; rule = unasked } in n)
    (same_counted (λ (v : ℕ). get_or (replicate 40 (pos 0)) v (pos 0)) (λ (v : ℕ). pos 0) stations (pos 0) (λ k. get_or_repeated 40 k (pos 0)))

pub made_row : (s c h stations capacity charge : ℕ) → s ≡ min stations 40 → c ≡ min capacity 500 → h ≡ min charge 10000
    → promenade s c h (replicate 40 (pos 0)) (replicate 78 Open) ≡ fresh (min stations 40) (min capacity 500) (min charge 10000)
made_row s c h stations capacity charge p q r =
    new_row s c h
    ∙ ap (λ (x : ℕ). fresh x c h) p ∙ ap (λ (x : ℕ). fresh (min stations 40) x h) q ∙ ap (λ (x : ℕ). fresh (min stations 40) (min capacity 500) x) r

module _ (stations capacity charge : ℕ) (bs : List ℤ) (ks : List Mark) where
  -- an accepted report
  reported_row : (s : ℕ) (b : ℤ) → s < stations → s < length bs → promenade stations capacity charge (set bs s b) ks ≡ reported (promenade stations capacity charge bs ks) s b
  reported_row s b h l =
      let n : Net = promenade stations capacity charge bs ks in
      let e = length-map-range_with_len (λ (v : ℕ). get_or bs v (pos 0)) 0 stations in
      let few : length n.balances ≤ stations = omega arith in
      let there : s < length n.balances = omega arith in
      ap (λ (v : List ℤ). let m : Net = record { legs = n.legs; balances = v; open_stations = stations; road_legs = row_legs stations; rule = unasked } in m)
      (counted_set (λ (z : ℤ) (j : ℕ). z) bs (pos 0) (pos 0) stations s b h l ∙ all_open stations unasked n.balances (marks_of n.legs) s b few there)

  pub report_writes : (s : ℕ) (b : ℤ) → report_fault stations s b ≡ None → s < length bs → SFits w32 b
      → promenade stations capacity charge (set bs s (to_z w32 (of_z w32 b))) ks ≡ reported (promenade stations capacity charge bs ks) s b
  report_writes s b e l f =
      ap (λ (z : ℤ). promenade stations capacity charge (set bs s z) ks) (to_z-of_z w32 b f) ∙ reported_row s b (report_open stations s b e) l

  -- an accepted closing or reopening
  pub mark_writes : (i : ℕ) (k : Mark) → mark_fault (row_legs stations) (promenade stations capacity charge bs ks).legs i k ≡ None → i < length ks
      → promenade stations capacity charge bs (set ks i k) ≡ remarked (promenade stations capacity charge bs ks) i k
  mark_writes i k e l =
      let n : Net = promenade stations capacity charge bs ks in
      let h : i < row_legs stations = mark_road (row_legs stations) n.legs i k e in
      ap (λ (v : List Leg). let m : Net = record { legs = v; balances = n.balances; open_stations = stations; road_legs = row_legs stations; rule = unasked } in m)
      (counted_set (promenade_leg capacity charge) ks Open cleared_leg (row_legs stations) i k h l
      ∙ ap (λ (x : Leg). set n.legs i (with_mark k x))
      (sym (get_or-map-range_with_len (λ (j : ℕ). promenade_leg capacity charge (get_or ks j Open) j) 0 (row_legs stations) i i cleared_leg h (omega arith))))
