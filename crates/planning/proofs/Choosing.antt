-- The nearest of the stations that lack bikes.
use Rattle.std.proofs.Common.{◌≡◌, ℕ, zero, suc, ◌+◌, ◌<◌, ◌≤◌, Bool, true, false, T, cond, not, ◌&&◌, ◌⊎◌, List, [], ◌∷◌, length, get_or, ℤ, pos, negsuc, ◌≤ℤ◌, ◌<ℤ◌, Some, None, Option, sym, refl, ap, ◌∙◌, subst, inl, inr, arith}
use Rattle.std.specs.Fn.{Called}
use Rattle.std.specs.Iterator.{Drains, FoldTurn, ReducesItems}
use Rattle.std.specs.List.{FoldsTo, fold, reduce, zip, cons_option, filter_map, enumerate_from}
use Rattle.std.specs.Option.{MatchOption, option_map}
use Rattle.std.proofs.lemmas.Iterator.{YieldsList}
use Rattle.std.proofs.lemmas.Iterator.Consumers.{reduce_from_yields_List}
use Rattle.std.specs.Ordering.{int_eq}
use Rattle.std.specs.Prelude.{int_lt}
use Rattle.std.proofs.lemmas.Int.{ints}
use Rattle.std.proofs.lemmas.Bool.{both_ways, true_from_ne_false, cases_lt, cases_Bool, or_cases, or_parts, and_parts, and_cases, not-true, not-false}
use Rattle.std.proofs.lemmas.Bool.Decides.{Decides-int_eq}
use Rattle.std.proofs.lemmas.List.{get_or_past}
use Rattle.std.proofs.lemmas.Option.{none-some, same_Some}
use Rattle.std.proofs.lemmas.Slice.Zip.{length-zip, get_or-zip}
use denote.Param.Members.{Mut}
use Rattle.costs.specs.Kinds.{both_kind}
use Rattle.plans.specs.Residuals.{both_group}
use Rattle.search.specs.Labels.{unlabelled, label_at}
use Rattle.search.specs.declared.label.Arrival.{Arrival}
use Rattle.search.specs.declared.label.Label.{Label}
use Rattle.planning.specs.Sends.{Both}
use Rattle.planning.specs.Rounds.{is_at_most, lower_of, lacking_by, waiting_of, waiting_all, nearest_of, Waits, FindsNearest}
use Rattle.planning.specs.declared.sendings.Lacking.{Lacking}

-- ---- what `reduce` answers by a closure that computes a function of two items
module _ {F A : Type 0} (g : Mut F (A × (A × Unit {0})) A) (h : A → A → A) (f : F) (acts : (x y r : A) (q : F) → Called g f (x, (y, tt)) r q → (q ≡ f) × (r ≡ h x y)) where
  folds : (xs : List A) (p : F × A) (f' : F) (r : A) → p.0 ≡ f → FoldsTo {P = F × A} (FoldTurn g) p xs (f', r) → FoldsTo (λ a z c. c ≡ h a z) p.1 xs r
  folds [] p f' r e t = ap (λ w. w.1) t
  folds (x ∷ xs) p f' r e t =
      let k = acts p.1 x t.0.1 t.0.0 (subst (λ w. Called g w (p.1, (x, tt)) t.0.1 t.0.0) e t.1) in
      (t.0.1, k.1, folds xs t.0 f' r k.0 t.2)

  module _ {S : Type 0} (steps : S → Option A → S → Type 0) (s : S) where
    turns : (r : Option A) → ReducesItems steps g s f r → MatchOption r (Drains steps s []) (λ y. (x : A) × (xs : List A) × Drains steps s (x ∷ xs) × FoldsTo (λ p z c. c ≡ h p z) x xs y)
    turns None t = t
    turns (Some y) t = (t.0, t.1, t.3, folds t.1 (f, t.0) t.2 y (λ i. f) t.4)

    pub reduced : (r : Option A) {all : List A} → ReducesItems steps g s f r → YieldsList steps (λ x. x) s all → r ≡ reduce h all
    reduced r t road = reduce_from_yields_List h s r (turns r t) road

-- ---- the order of totals
lt_true : (a b : ℤ) → int_lt a b ≡ true → a <ℤ b
lt_true a b e = record { lt = subst T (sym e) tt }

lt_false : (a b : ℤ) → int_lt a b ≡ false → b ≤ℤ a
lt_false (pos a) (pos b) e = grind (arith, ints)
lt_false (pos a) (negsuc b) e = omega (arith, ints)
lt_false (negsuc a) (pos b) e = absurd (both_ways true e refl)
lt_false (negsuc a) (negsuc b) e = grind (arith, ints)

abbrev AtMost : Both → Both → Type 0
AtMost a b = both_group.le (both_kind.worth a) (both_kind.worth b)

at_most_true : (a b : Both) → is_at_most a b ≡ true → AtMost a b
at_most_true a b e = elim (or_cases (int_lt a.first.0 b.first.0) (int_eq a.first.0 b.first.0 && not (int_lt b.second.0 a.second.0)) e) [
  | inl t ↦ let h = lt_true a.first.0 b.first.0 t in (omega (arith, ints, h), λ k. absurd (omega (arith, ints, h, k)))
  | inr t ↦
      let p = and_parts (int_eq a.first.0 b.first.0) (not (int_lt b.second.0 a.second.0)) t in
      let q = (Decides-int_eq a.first.0 b.first.0).0 p.0 in
      (omega (arith, ints, q), λ k. lt_false b.second.0 a.second.0 (not-true _ p.1))
]

at_most_false : (a b : Both) → is_at_most a b ≡ false → AtMost a b → ⊥
at_most_false a b e h =
    let p = or_parts (int_lt a.first.0 b.first.0) (int_eq a.first.0 b.first.0 && not (int_lt b.second.0 a.second.0)) e in
    let below = lt_false a.first.0 b.first.0 p.0 in
    let same : a.first.0 ≡ b.first.0 = omega (arith, ints, below, h.0) in
    elim (and_cases (int_eq a.first.0 b.first.0) (not (int_lt b.second.0 a.second.0)) p.1) [
      | inl t ↦ both_ways _ t ((Decides-int_eq a.first.0 b.first.0).1 same)
      | inr t ↦ let k = lt_true b.second.0 a.second.0 (not-false _ t) in let l = h.1 below in omega (arith, ints, k, l)
    ]

-- ---- the first of the lowest
abbrev Mem : Lacking → List Lacking → Type 0
Mem c [] = ⊥
Mem c (x ∷ xs) = (c ≡ x) ⊎ Mem c xs

abbrev Rising : List Lacking → Type 0
Rising [] = Unit {0}
Rising (x ∷ xs) = ((c : Lacking) → Mem c xs → x.station < c.station) × Rising xs

-- no lower one than c, and none as low before it
record Lowest (xs : List Lacking) (c : Lacking) : Type 0 where
  there : Mem c xs
  lowest : (d : Lacking) → Mem d xs → AtMost c.total d.total
  first : (d : Lacking) → Mem d xs → AtMost d.total c.total → c.station ≤ d.station

trans : (a b c : Both) → AtMost a b → AtMost b c → AtMost a c
trans a b c p q = both_group.le_trans (both_kind.worth a) (both_kind.worth b) (both_kind.worth c) p q

-- the lower of the first two and the rest, or all
lowest_more : (a x : Lacking) (xs : List Lacking) (c : Lacking) → Rising (a ∷ (x ∷ xs)) → Lowest (lower_of a x ∷ xs) c → Lowest (a ∷ (x ∷ xs)) c
lowest_more a x xs c r l = elim (cases_Bool (is_at_most a.total x.total)) [
  | inl e ↦
      let m = at_most_true a.total x.total e in
      let k : Lowest (a ∷ xs) c = subst (λ b. Lowest (cond b a x ∷ xs) c) e l in
      record {
        there = elim k.there [ inl p ↦ inl p | inr p ↦ inr (inr p) ];
        lowest = λ d o. elim o [
          | inl p ↦ k.lowest d (inl p)
          | inr q ↦ elim q [ inl p ↦ subst (λ (w : Lacking). AtMost c.total w.total) (sym p) (trans c.total a.total x.total (k.lowest a (inl refl)) m) | inr p ↦ k.lowest d (inr p) ]
        ];
        first = λ d o h. elim o [
          | inl p ↦ k.first d (inl p) h
          | inr q ↦ elim q [
            | inl p ↦
                let f = k.first a (inl refl) (trans a.total x.total c.total m (subst (λ (w : Lacking). AtMost w.total c.total) p h)) in
                let g = r.0 x (inl refl) in
                let s : d.station ≡ x.station = ap (λ (w : Lacking). w.station) p in omega (arith, f, g, s)
            | inr p ↦ k.first d (inr p) h
          ]
        ];
      }
  | inr e ↦
      let n = at_most_false a.total x.total e in
      let m : AtMost x.total a.total = elim (both_group.le_total (both_kind.worth a.total) (both_kind.worth x.total)) [ inl p ↦ absurd (n p) | inr p ↦ p ] in
      let k : Lowest (x ∷ xs) c = subst (λ b. Lowest (cond b a x ∷ xs) c) e l in
      record {
        there = inr k.there;
        lowest = λ d o. elim o [
          | inl p ↦ subst (λ (w : Lacking). AtMost c.total w.total) (sym p) (trans c.total x.total a.total (k.lowest x (inl refl)) m)
          | inr p ↦ k.lowest d p
        ];
        first = λ d o h. elim o [
          | inl p ↦ absurd (n (trans a.total c.total x.total (subst (λ (w : Lacking). AtMost w.total c.total) p h) (k.lowest x (inl refl))))
          | inr p ↦ k.first d p h
        ];
      }
]

lower_rising : (a x : Lacking) (xs : List Lacking) → Rising (a ∷ (x ∷ xs)) → Rising (lower_of a x ∷ xs)
lower_rising a x xs r = elim (cases_Bool (is_at_most a.total x.total)) [
  | inl e ↦ rw e (λ c m. r.0 c (inr m), r.1.1)
  | inr e ↦ rw e (r.1.0, r.1.1)
]

fold_lowest : (a : Lacking) (xs : List Lacking) → Rising (a ∷ xs) → Lowest (a ∷ xs) (fold lower_of a xs)
fold_lowest a [] r =
    record {
      there = inl refl;
      lowest = λ d o. elim o [ inl p ↦ subst (λ (w : Lacking). AtMost a.total w.total) (sym p) (both_group.le_refl (both_kind.worth a.total)) | inr p ↦ absurd p ];
      first = λ d o h. elim o [ inl p ↦ let s : d.station ≡ a.station = ap (λ (w : Lacking). w.station) p in omega (arith, s) | inr p ↦ absurd p ];
    }
fold_lowest a (x ∷ xs) r = lowest_more a x xs (fold lower_of (lower_of a x) xs) r (fold_lowest (lower_of a x) xs (lower_rising a x xs r))

-- ---- the stations that wait, by rising number
abbrev Entry : Type 0
Entry = (Label Both × ℤ) × Bool

abbrev waiting_at : ℕ → Entry → Option Lacking
waiting_at v e = waiting_of v e.0.0 e.0.1 e.1

abbrev waiting_from : ℕ → List Entry → List Lacking
waiting_from n es = filter_map (λ (e : ℕ × Entry). waiting_of e.0 e.1.0.0 e.1.0.1 e.1.1) (enumerate_from n es)

by_label : (v : ℕ) (o : Option (Arrival Both)) (c : Lacking) → lacking_by v o ≡ Some c → (x : Arrival Both) × (o ≡ Some x) × (record { station = v; total = x.total } ≡ c)
by_label v None c e = absurd (none-some c e)
by_label v (Some x) c e = (x, refl, same_Some _ _ e)

-- what a station that waits is
record Told (v : ℕ) (l : Label Both) (left : ℤ) (marked : Bool) (c : Lacking) : Type 0 where
  arrival : Arrival Both
  known : l.arrival ≡ Some arrival
  same : record { station = v; total = arrival.total } ≡ c
  lacks : left <ℤ pos 0
  unmarked : marked ≡ false

told : (v : ℕ) (l : Label Both) (left : ℤ) (marked : Bool) (c : Lacking) → waiting_of v l left marked ≡ Some c → Told v l left marked c
told v l left marked c e = elim (cases_Bool (int_lt left (pos 0) && not marked)) [
  | inl t ↦
      let p = and_parts (int_lt left (pos 0)) (not marked) t in
      let f : lacking_by v l.arrival ≡ Some c = subst (λ (b : Bool). cond b (lacking_by v l.arrival) None ≡ Some c) t e in
      let q = by_label v l.arrival c f in
      record { arrival = q.0; known = q.1; same = q.2; lacks = lt_true left (pos 0) p.0; unmarked = not-true marked p.1 }
  | inr t ↦ let f : None ≡ Some c = subst (λ (b : Bool). cond b (lacking_by v l.arrival) None ≡ Some c) t e in absurd (none-some c f)
]

telling : (v : ℕ) (l : Label Both) (left : ℤ) (marked : Bool) (x : Arrival Both) → l.arrival ≡ Some x → left <ℤ pos 0 → marked ≡ false → waiting_of v l left marked ≡ Some (record { station = v; total = x.total })
telling v l left marked x k h m =
    let low : int_lt left (pos 0) ≡ true = true_from_ne_false (int_lt left (pos 0)) (λ e. let g = lt_false left (pos 0) e in omega (arith, ints, g, h)) in
    ap (λ (b : Bool). cond (b && not marked) (lacking_by v l.arrival) None) low ∙ ap (λ (b : Bool). cond (true && not b) (lacking_by v l.arrival) None) m ∙ ap (lacking_by v) k

station_is : (v : ℕ) (e : Entry) (c : Lacking) → waiting_at v e ≡ Some c → c.station ≡ v
station_is v e c h = let t = told v e.0.0 e.0.1 e.1 c h in ap (λ (w : Lacking). w.station) (sym t.same)

-- one that waits is in the list at its place
in_front : (c : Lacking) (o : Option Lacking) (xs : List Lacking) → Mem c (cons_option o xs) → (o ≡ Some c) ⊎ Mem c xs
in_front c None xs m = inr m
in_front c (Some d) xs m = elim m [ inl p ↦ inl (ap Some (sym p)) | inr p ↦ inr p ]

to_front : (c : Lacking) (o : Option Lacking) (xs : List Lacking) → (o ≡ Some c) ⊎ Mem c xs → Mem c (cons_option o xs)
to_front c None xs (inl p) = absurd (none-some c p)
to_front c None xs (inr p) = p
to_front c (Some d) xs (inl p) = inl (sym (same_Some _ _ p))
to_front c (Some d) xs (inr p) = inr p

found_at : (n : ℕ) (es : List Entry) (c : Lacking) → Mem c (waiting_from n es) → (k : ℕ) × (k < length es) × ((d : Entry) → waiting_at (n + k) (get_or es k d) ≡ Some c)
found_at n [] c m = absurd m
found_at n (e ∷ es) c m = elim (in_front c (waiting_at n e) (waiting_from (n + 1) es) m) [
  | inl p ↦ let z : n + zero ≡ n = omega arith in (zero, omega arith, λ d. ap (λ v. waiting_at v e) z ∙ p)
  | inr p ↦
      let q = found_at (n + 1) es c p in
      let z : n + suc q.0 ≡ n + 1 + q.0 = omega arith in
      (suc q.0, omega (arith, q.1), λ d. ap (λ v. waiting_at v (get_or es q.0 d)) z ∙ q.2 d)
]

listed_at : (n : ℕ) (es : List Entry) (c : Lacking) (k : ℕ) (d : Entry) → k < length es → waiting_at (n + k) (get_or es k d) ≡ Some c → Mem c (waiting_from n es)
listed_at n [] c k d h e = absurd (omega (arith, h))
listed_at n (x ∷ es) c zero d h e = let z : n ≡ n + zero = omega arith in to_front c (waiting_at n x) (waiting_from (n + 1) es) (inl (ap (λ v. waiting_at v x) z ∙ e))
listed_at n (x ∷ es) c (suc k) d h e =
    let z : n + 1 + k ≡ n + suc k = omega arith in
    to_front c (waiting_at n x) (waiting_from (n + 1) es) (inr (listed_at (n + 1) es c k d (omega (arith, h)) (ap (λ v. waiting_at v (get_or es k d)) z ∙ e)))

from_on : (n : ℕ) (es : List Entry) (c : Lacking) → Mem c (waiting_from n es) → n ≤ c.station
from_on n es c m = let q = found_at n es c m in let s = station_is (n + q.0) (get_or es q.0 ((unlabelled, pos 0), true)) c (q.2 ((unlabelled, pos 0), true)) in omega (arith, s)

rising_front : (n : ℕ) (o : Option Lacking) (xs : List Lacking) → ((c : Lacking) → o ≡ Some c → c.station ≡ n) → ((c : Lacking) → Mem c xs → n + 1 ≤ c.station) → Rising xs → Rising (cons_option o xs)
rising_front n None xs s h r = r
rising_front n (Some x) xs s h r = (λ c m. let e = s x refl in let g = h c m in omega (arith, e, g), r)

rising_from : (n : ℕ) (es : List Entry) → Rising (waiting_from n es)
rising_from n [] = tt
rising_from n (e ∷ es) = rising_front n (waiting_at n e) (waiting_from (n + 1) es) (λ c h. station_is n e c h) (λ c m. from_on (n + 1) es c m) (rising_from (n + 1) es)

-- ---- the nearest
module _ (ls : List (Label Both)) (left : List ℤ) (marks : List Bool) where
  abbrev entries : List Entry
  entries = zip (zip ls left) marks

  abbrev none : Entry
  none = ((unlabelled, pos 0), true)

  entry_at : (k : ℕ) → k < length ls → k < length left → k < length marks → get_or entries k none ≡ ((label_at ls k, get_or left k (pos 0)), get_or marks k true)
  entry_at k p q r =
      let h : k < length (zip ls left) = omega (arith, length-zip ls left, p, q) in
      get_or-zip (zip ls left) marks k none h r ∙ ap (λ w. (w, get_or marks k true)) (get_or-zip ls left k (unlabelled, pos 0) p q)

  -- one that waits has entries
  within : (v : ℕ) (x : Arrival Both) → Waits ls left marks v x → (v < length ls) × (v < length left) × (v < length marks)
  within v x w = (
    elim (cases_lt v (length ls)) [ inl l ↦ l | inr l ↦ absurd (none-some x (sym (ap (λ l. l.arrival) (get_or_past ls v unlabelled l)) ∙ w.labelled)) ],
    elim (cases_lt v (length left)) [ inl l ↦ l | inr l ↦ let e = get_or_past left v (pos 0) l in let f = w.lacks in absurd (omega (arith, ints, e, f)) ],
    elim (cases_lt v (length marks)) [ inl l ↦ l | inr l ↦ absurd (both_ways true (sym (get_or_past marks v true l) ∙ w.unmarked) refl) ],
  )

  listed : (v : ℕ) (x : Arrival Both) → Waits ls left marks v x → Mem (record { station = v; total = x.total }) (waiting_all ls left marks)
  listed v x w =
      let p = within v x w in
      let long : v < length entries = omega (arith, length-zip (zip ls left) marks, length-zip ls left, p.0, p.1, p.2) in
      let z : 0 + v ≡ v = omega arith in
      listed_at 0 entries (record { station = v; total = x.total }) v none long
      (ap (λ k. waiting_at k (get_or entries v none)) z ∙ ap (waiting_at v) (entry_at v p.0 p.1 p.2) ∙ telling v (label_at ls v) (get_or left v (pos 0)) (get_or marks v true) x w.labelled w.lacks w.unmarked)

  waits : (c : Lacking) → Mem c (waiting_all ls left marks) → (x : Arrival Both) × Waits ls left marks c.station x × (x.total ≡ c.total)
  waits c m =
      let q = found_at 0 entries c m in
      let k = q.0 in
      let z : k ≡ 0 + k = omega arith in
      let h : k < length entries = q.1 in
      let p : k < length ls = omega (arith, length-zip (zip ls left) marks, length-zip ls left, h) in
      let r : k < length left = omega (arith, length-zip (zip ls left) marks, length-zip ls left, h) in
      let s : k < length marks = omega (arith, length-zip (zip ls left) marks, h) in
      let t = told k (label_at ls k) (get_or left k (pos 0)) (get_or marks k true) c (ap (waiting_at k) (sym (entry_at k p r s)) ∙ ap (λ v. waiting_at v (get_or entries k none)) z ∙ q.2 none) in
      let e : k ≡ c.station = ap (λ (w : Lacking). w.station) t.same in
      (t.arrival, subst (λ v. Waits ls left marks v t.arrival) e (record { labelled = t.known; lacks = t.lacks; unmarked = t.unmarked }), ap (λ (w : Lacking). w.total) t.same)

  by_list : (xs : List Lacking) → xs ≡ waiting_all ls left marks → FindsNearest ls left marks (option_map (λ c. c.station) (reduce lower_of xs))
  by_list [] e = λ v x w. subst (Mem (record { station = v; total = x.total })) (sym e) (listed v x w)
  by_list (a ∷ xs) e =
      let l = fold_lowest a xs (subst Rising (sym e) (rising_from 0 entries)) in
      let c = fold lower_of a xs in
      let t = waits c (subst (Mem c) e l.there) in
      let of : (v : ℕ) (y : Arrival Both) → Waits ls left marks v y → Mem (record { station = v; total = y.total }) (a ∷ xs) = λ v y w. subst (Mem (record { station = v; total = y.total })) (sym e) (listed v y w) in
      record {
        arrival = t.0;
        waits = t.1;
        lowest = λ v y w. subst (λ z. AtMost z y.total) (sym t.2) (l.lowest _ (of v y w));
        first = λ v y w s. l.first _ (of v y w) (subst (λ z. both_group.le (both_kind.worth y.total) z) (s ∙ ap both_kind.worth t.2) (both_group.le_refl (both_kind.worth y.total)));
      }

  pub finds_nearest : FindsNearest ls left marks (nearest_of ls left marks)
  finds_nearest = by_list (waiting_all ls left marks) refl
