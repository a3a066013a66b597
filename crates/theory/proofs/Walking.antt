-- Walks: removal of round trips, labels, and rounds of relaxing (Bellman–Ford).
use Rattle.std.proofs.Common.{◌≡◌, ℕ, zero, suc, ◌<◌, ◌≤◌, ◌⊎◌, List, [], ◌∷◌, length, Some, None, Option, sym, refl, inl, inr, arith}
use native.Mathlib.Decide.{ℕ_discrete}
use Rattle.std.specs.List.{AllByRecursion}
use Rattle.theory.specs.Groups.{OrderedGroup, cancel}
use Rattle.theory.specs.Walks.{Walk, start, step, Way, rest, go, Absent, Distinct, SimpleWalk, Least, Price, RoundTrip, Reached, Label, Rounds, AtMost}
use Rattle.theory.proofs.Adding
use Rattle.theory.proofs.Pigeons.{few}

-- what is at most s is at most what s is at most
pub at_most_up : {A : Type 0} (G : OrderedGroup A) (o : Option A) (s t : A) → G.le s t → AtMost G o s → AtMost G o t
at_most_up G None s t h k = absurd k
at_most_up G (Some a) s t h k = G.le_trans _ _ _ k h

-- ---- the same steps and starts in other words
module _ {A : Type 0} (G : OrderedGroup A) {F F' : ℕ → Type 0} {S S' : ℕ → ℕ → A → Type 0} (f : (v : ℕ) → F v → F' v) (s : (u v : ℕ) (c : A) → S u v c → S' u v c) where
  pub walk_map : {v : ℕ} {us : List ℕ} {t : A} → Walk G F S v us t → Walk G F' S' v us t
  walk_map (start {v = v} h) = start (f v h)
  walk_map (step {u = u} {v = v} {c = c} w h) = step (walk_map w) (s u v c h)

  pub simple_map : (v : ℕ) (t : A) → SimpleWalk G F S v t → SimpleWalk G F' S' v t
  simple_map v t w = record { before = w.before; walk = walk_map w.walk; once = w.once }

module _ {A : Type 0} (G : OrderedGroup A) {S S' : ℕ → ℕ → A → Type 0} (s : (u v : ℕ) (c : A) → S u v c → S' u v c) where
  way_map : {o v : ℕ} {us : List ℕ} {t : A} → Way G S o v us t → Way G S' o v us t
  way_map rest = rest
  way_map (go {u = u} {v = v} {c = c} w h) = go (way_map w) (s u v c h)

  pub trip_map : RoundTrip G S → RoundTrip G S'
  trip_map r = record { at = r.at; through = r.through; total = r.total; way = way_map r.way; once = r.once; below = r.below }

pub price_map : {A : Type 0} (G : OrderedGroup A) {F F' : ℕ → Type 0} {S S' : ℕ → ℕ → A → Type 0} → ((v : ℕ) → F v → F' v) → ((v : ℕ) → F' v → F v) → ((u v : ℕ) (c : A) → S u v c → S' u v c) → ((u v : ℕ) (c : A) → S' u v c → S u v c) → (v : ℕ) (t : A) → Price G F S v t → Price G F' S' v t
price_map G f f' s s' v t p = record { attained = simple_map G f s v t p.attained; least = λ r w. p.least r (simple_map G f' s' v r w) }

-- ---- labels of reached stations that no step undercuts: no round trip below zero
module _ {A : Type 0} (G : OrderedGroup A) (S : ℕ → ℕ → A → Type 0) (R : ℕ → Type 0) (d : ℕ → A) (held : (u v : ℕ) (c : A) → R u → S u v c → R v × G.le (d v) (G.add (d u) c)) where
  onward : {o v : ℕ} {us : List ℕ} {t : A} → R o → Way G S o v us t → R v × G.le (d v) (G.add (d o) t)
  onward {o = o} r rest = (r, Adding.regrouped G (G.le_refl (d o)) refl (Adding.unit_right G (d o)))
  onward {o = o} r (go {u = u} {v = v} {us = us} {t = t} {c = c} w s) =
      let h = onward r w in
      let k = held u v c h.0 s in
      (k.0, G.le_trans _ _ _ k.1 (Adding.regrouped G (Adding.shift_right G _ _ c h.1) refl (sym (G.assoc (d o) t c))))

  pub no_trip_at : (trip : RoundTrip G S) → R trip.at → ⊥
  no_trip_at trip r =
      let o = trip.at in
      trip.below (cancel G _ _ (d o) (Adding.regrouped G (onward r trip.way).1 (Adding.unit_right G (d o)) refl))

module _ {A : Type 0} (G : OrderedGroup A) (F : ℕ → Type 0) (S : ℕ → ℕ → A → Type 0) where
  -- ---- removal of round trips
  -- a walk taken apart where it met v
  record Apart (v u : ℕ) (us : List ℕ) (t : A) : Type 0 where
    before : List ℕ
    since : List ℕ
    first : A
    second : A
    walk : Walk G F S v before first
    way : Way G S v u since second
    sum : t ≡ G.add first second
    fewer : (z : ℕ) → Absent z us → Absent z since
    once : Distinct us → Distinct (v ∷ before) × Distinct since

  apart : (v : ℕ) {u : ℕ} {us : List ℕ} {t : A} → Walk G F S u us t → Apart v u us t ⊎ Absent v us
  apart v (start f) = inr tt
  apart v (step {u = u} {v = w} {us = us} {t = t} {c = c} k s) =
      elim (ℕ_discrete v u) [
        | yes e ↦ inl (record {
          before = us;
          since = u ∷ [];
          first = t;
          second = G.add G.zero c;
          walk = rw e k;
          way = rw e (go rest s);
          sum = rw (G.unit c);
          fewer = λ z a. (a.0, tt);
          once = λ h. (rw e h, (tt, tt));
        })
        | no n ↦ elim (apart v k) [
          | inl r ↦ inl (record {
            before = r.before;
            since = u ∷ r.since;
            first = r.first;
            second = G.add r.second c;
            walk = r.walk;
            way = go r.way s;
            sum = rw r.sum (G.assoc _ _ _);
            fewer = λ z a. (a.0, r.fewer z a.1);
            once = λ h. ((r.once h.1).0, (r.fewer u h.0, (r.once h.1).1));
          })
          | inr a ↦ inr (n, a)
        ]
      ]

  abbrev Short : ℕ → A → Type 0
  Short v t = (s : A) × SimpleWalk G F S v s × G.le s t

  pub shorten : {v : ℕ} {us : List ℕ} {t : A} → Walk G F S v us t → Reached G F S ⊎ Short v t
  shorten (start f) = inr (G.zero, record { before = []; walk = start f; once = (tt, tt) }, G.le_refl _)
  shorten (step {u = u} {v = v} {us = us} {t = t} {c = c} k s) =
      elim (shorten k) [
        | inl g ↦ inl g
        | inr r ↦
            let more : Walk G F S v (u ∷ r.1.before) (G.add r.0 c) = step r.1.walk s in
            let below : G.le (G.add r.0 c) (G.add t c) = Adding.shift_right G _ _ c r.2 in
            elim (apart v more) [
              | inr a ↦ inr (G.add r.0 c, record { before = u ∷ r.1.before; walk = more; once = (a, r.1.once) }, below)
              | inl q ↦ elim (G.le_decide G.zero q.second) [
                | inl h ↦ inr (
                  q.first,
                  record { before = q.before; walk = q.walk; once = (q.once r.1.once).0 },
                  G.le_trans _ _ _ (rw q.sum (rw (Adding.unit_right G q.first) at (G.shift _ _ q.first h))) below,
                )
                | inr g ↦ inl (record { trip = record { at = v; through = q.since; total = q.second; way = q.way; once = (q.once r.1.once).1; below = g }; before = q.before; total = q.first; walk = q.walk })
              ]
            ]
      ]

  -- ---- prices, steps and least totals
  pub reduced : (Reached G F S → ⊥) → (u v : ℕ) (c s t : A) → S u v c → Price G F S u s → Price G F S v t → G.le t (G.add s c)
  reduced none u v c s t k p q =
      elim (shorten (step p.attained.walk k)) [
        | inl r ↦ absurd (none r)
        | inr r ↦ G.le_trans _ _ _ (q.least r.0 r.1) r.2
      ]

  pub price_unique : (v : ℕ) (s t : A) → Price G F S v s → Price G F S v t → s ≡ t
  price_unique v s t p q = G.le_antisym _ _ (p.least t q.attained) (q.least s p.attained)

  pub price_least : (Reached G F S → ⊥) → (v : ℕ) (t : A) → Price G F S v t → Least G F S v t
  price_least none v t p =
      record {
        before = p.attained.before;
        attained = p.attained.walk;
        least = λ us s w. elim (shorten w) [ inl r ↦ absurd (none r) | inr r ↦ G.le_trans _ _ _ (p.least r.0 r.1) r.2 ];
      }

  simple_least : (v : ℕ) (t : A) → Least G F S v t → Short v t → SimpleWalk G F S v t
  simple_least v t l r = let e : r.0 ≡ t = G.le_antisym _ _ r.2 (l.least r.1.before r.0 r.1.walk) in rw e at r.1

  pub least_price : (Reached G F S → ⊥) → (v : ℕ) (t : A) → Least G F S v t → Price G F S v t
  least_price none v t l =
      elim (shorten l.attained) [
        | inl r ↦ absurd (none r)
        | inr r ↦ record { attained = simple_least v t l r; least = λ s k. l.least k.before s k.walk }
      ]

  -- ---- labels
  module _ (R : ℕ → Type 0) (d : ℕ → A) (L : Label G F S R d) where
    pub under : {v : ℕ} {us : List ℕ} {t : A} → Walk G F S v us t → R v × G.le (d v) t
    under (start {v = v} f) = L.starts v f
    under (step {u = u} {v = v} {us = us} {t = t} {c = c} w s) =
        let h = under w in
        let k = L.held u v c h.0 s in
        (k.0, G.le_trans _ _ _ k.1 (Adding.shift_right G _ _ c h.1))

    pub no_trip : Reached G F S → ⊥
    no_trip r = no_trip_at G S R d L.held r.trip (under r.walk).0

    pub least_total : (v : ℕ) (us : List ℕ) → Walk G F S v us (d v) → Least G F S v (d v)
    least_total v us w = record { before = us; attained = w; least = λ us' s k. (under k).1 }

    pub price : (v : ℕ) (us : List ℕ) → Walk G F S v us (d v) → Price G F S v (d v)
    price v us w = least_price no_trip v (d v) (least_total v us w)

  -- ---- rounds of relaxing
  module _ (U : ℕ → ℕ → A → Type 0) (E : Rounds G F S U) where
    from_start : (k v : ℕ) → F v → U k v G.zero
    from_start zero v f = E.first v f
    from_start (suc k) v f = E.falls k v _ (from_start k v f)

    pub within : (k : ℕ) {v : ℕ} {us : List ℕ} {t : A} → Walk G F S v us t → length us ≤ k → U k v t
    within k (start {v = v} f) l = from_start k v f
    within zero (step w s) l = absurd (omega arith)
    within (suc k) (step {u = u} {v = v} {t = t} {c = c} w s) l = E.relaxed k u v t c (within k w (omega arith)) s

    visited : (n : ℕ) → ((u v : ℕ) (c : A) → S u v c → u < n) → {v : ℕ} {us : List ℕ} {t : A} → Walk G F S v us t → AllByRecursion (λ u. u < n) us
    visited n b (start f) = tt
    visited n b (step {u = u} {v = v} {c = c} w s) = (b u v c s, visited n b w)

    pub shows_trip : (m : ℕ) → ((u v : ℕ) (c : A) → S u v c → u < suc m) → ((v : ℕ) (s t : A) → G.le s t → U m v s → U m v t) → (v : ℕ) → v < suc m → (us : List ℕ) (t : A) → Walk G F S v us t → (U m v t → ⊥) → Reached G F S
    shows_trip m b rises v h us t w g =
        elim (shorten w) [
          | inl r ↦ r
          | inr r ↦ absurd (g (rises v r.0 t r.2 (within m r.1.walk (omega (arith, few (suc m) (v ∷ r.1.before) r.1.once (h, visited (suc m) b r.1.walk))))))
        ]
