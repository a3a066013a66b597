-- The first labels, and what labels say when rounds end.
use Rattle.std.proofs.Common.{◌≡◌, ℕ, suc, ◌<◌, ◌≤◌, Bool, true, false, List, [], ◌∷◌, length, Some, None, Option, sym, refl, ap, ◌∙◌, subst, inl, inr, arith}
use Rattle.std.proofs.lemmas.Option.{none-some, same_Some}
use Rattle.std.proofs.lemmas.Bool.{both_ways}
use Rattle.theory.specs.declared.Grouped.{Ghosts as Kind}
use Rattle.theory.specs.Walks.{Walk, start, step, Least, Reached, Label, Rounds, AtMost}
use Rattle.theory.specs.Walks as walks
use Rattle.theory.proofs.Adding.{shift_right}
use Rattle.theory.proofs.Walking
use Rattle.steps.specs.declared.step.Step.{Step}
use Rattle.search.specs.Labels.{label_at, held, begun}
use Rattle.search.specs.Searches.{Comes, Settles}
use Rattle.search.specs.Rounds.{Came, After, Late, Still, Begins}
use Rattle.search.specs.declared.label.Arrival.{Arrival}
use Rattle.search.specs.declared.label.Label as labels

module _ {C : Type 0} (K : Kind C) (size : C → ℕ) (n : ℕ) (F : ℕ → Type 0) (S : ℕ → ℕ → K.Member → Type 0) (T : Step → ℕ → ℕ → K.Member → Type 0)
    (ends : (u v : ℕ) (c : K.Member) → S u v c → (u < n) × (v < n)) (into : (s : Step) (u v : ℕ) (c : K.Member) → T s u v c → S u v c) where
  -- ---- the end: no label changed
  module _ (k : ℕ) (ls : List (labels.Label C)) (a : After K size n F S T k ls) (few : 1 ≤ n → k ≤ n) (still : Still n ls) where
    value : Option K.Member → K.Member
    value None = K.group.zero
    value (Some t) = t

    at_value : (o : Option K.Member) (t : K.Member) → AtMost K.group o t → (o ≡ Some (value o)) × K.group.le (value o) t
    unfolding value
    at_value None t h = absurd h
    at_value (Some s) t h = (refl, h)

    held_value : (o : Option (Arrival C)) → held K o ≡ Some (value (held K o)) → (y : Arrival C) × (o ≡ Some y) × (K.worth y.total ≡ value (held K o))
    unfolding value
    held_value None e = absurd (none-some _ e)
    held_value (Some y) e = (y, refl, refl)

    d : ℕ → K.Member
    d v = value (held K (label_at ls v).arrival)

    R : ℕ → Type 0
    R v = held K (label_at ls v).arrival ≡ Some (d v)

    onward : (u v : ℕ) (c : K.Member) (y : Arrival C) → (label_at ls u).arrival ≡ Some y → S u v c → AtMost K.group (held K (label_at ls v).arrival) (K.group.add (K.worth y.total) c)
    onward u v c y e s = a.relaxed u v c y s (still u (ends u v c s).0) e

    settled : walks.Label K.group F S R d
    unfolding R d
    settled =
        record {
          starts = λ v f. at_value (held K (label_at ls v).arrival) K.group.zero (a.reach v [] K.group.zero (start f) (omega arith));
          held = λ u v c r s.
              let y = held_value (label_at ls u).arrival r in
              at_value (held K (label_at ls v).arrival) _ (subst (λ t. AtMost K.group (held K (label_at ls v).arrival) (K.group.add t c)) y.2 (onward u v c y.0 y.1 s));
        }

    d_is : (v : ℕ) (x : Arrival C) → (label_at ls v).arrival ≡ Some x → d v ≡ K.worth x.total
    unfolding d value
    d_is v x e = ap (λ o. value (held K o)) e

    least : (v : ℕ) (x : Arrival C) → v < n → (label_at ls v).arrival ≡ Some x → Least K.group F S v (K.worth x.total)
    least v x h e =
        let w = a.attained v x h e in
        let q : Walk K.group F S v w.before (d v) = rw (d_is v x e) w.walk in
        rw (d_is v x e) at (Walking.least_total K.group F S R d settled v w.before q)

    unreached : (v : ℕ) → (label_at ls v).arrival ≡ None → (us : List ℕ) (t : K.Member) → Walk K.group F S v us t → ⊥
    unfolding R
    unreached v e us t w = none-some _ (sym (ap (held K) e) ∙ (Walking.under K.group F S R d settled w).0)

    comes : (v : ℕ) (x : Arrival C) → v < n → (label_at ls v).arrival ≡ Some x → Came K size n F S T ls a.since v x → Comes K n F S T ls a.since v x
    comes v x h e (inl z) = inl z
    comes v x h e (inr f) =
        let q : K.group.le (K.worth x.total) (K.group.add (K.worth f.arrival.total) f.cost) =
        subst (λ o. AtMost K.group (held K o) (K.group.add (K.worth f.arrival.total) f.cost)) e (onward f.from v f.cost f.arrival f.there (into _ _ _ _ f.step)) in
        inr (record { from = f.from; arrival = f.arrival; cost = f.cost; last = f.last; there = f.there; by = f.by; step = f.step; sum = K.group.le_antisym _ _ q f.above; earlier = f.earlier q })

    pub settles : Settles K n F S T ls
    settles =
        record {
          since = a.since;
          early = λ v h. omega (arith, a.early v, few (omega arith));
          least = least;
          comes = λ v x h e. comes v x h e (a.came v x h e);
          unreached = λ v h e. unreached v e;
          no_trip = Walking.no_trip K.group F S R d settled;
        }

  -- ---- the end: the n-th round found a total that no shorter walk has
  -- a walk of at most k steps totals at most t
  record Low (k v : ℕ) (t : K.Member) : Type 0 where
    before : List ℕ
    total : K.Member
    walk : Walk K.group F S v before total
    short : length before ≤ k
    low : K.group.le total t

  low_rounds : Rounds K.group F S Low
  low_rounds =
      record {
        first = λ v f. record { before = []; total = K.group.zero; walk = start f; short = omega arith; low = K.group.le_refl K.group.zero };
        falls = λ k v t l. record { before = l.before; total = l.total; walk = l.walk; short = omega (arith, l.short); low = l.low };
        relaxed = λ k u v t c l s. record { before = u ∷ l.before; total = K.group.add l.total c; walk = step l.walk s; short = omega (arith, l.short); low = shift_right K.group _ _ c l.low };
      }

  pub late_trip : (m : ℕ) → n ≡ suc m → Late K size n F S T (suc m) → Reached K.group F S
  late_trip m e l =
      Walking.shows_trip K.group F S Low low_rounds m (λ u v c s. omega (arith, ends u v c s)) (λ v s t h q. record { before = q.before; total = q.total; walk = q.walk; short = q.short; low = K.group.le_trans _ _ _ q.low h })
      l.at (omega (arith, l.below)) l.before l.total l.walk (λ q. l.no_shorter q.before q.total q.walk (omega (arith, q.short)) q.low)

  -- ---- the first labels
  module _ (f : ℕ → Bool) (starts_at : (v : ℕ) → v < n → f v ≡ true → F v) (starts_from : (v : ℕ) → F v → (v < n) × (f v ≡ true)) (old ls : List (labels.Label C)) (b : Begins K size n f old ls) where
    -- by whether the station is a start
    first : (t : Bool) (v : ℕ) (x : Arrival C) → (begun t b.z).arrival ≡ Some x → (t ≡ true) × (x.last ≡ None) × (K.worth x.total ≡ K.group.zero) × (size x.total ≡ 0)
    first false v x e = absurd (none-some x e)
    first true v x e = let q = same_Some _ _ e in (refl, ap (λ y. y.last) (sym q), ap (λ y. K.worth y.total) (sym q) ∙ b.zero.0, ap (λ y. size y.total) (sym q) ∙ b.zero.1)

    first_at : (v : ℕ) (x : Arrival C) → v < n → (label_at ls v).arrival ≡ Some x → (f v ≡ true) × (x.last ≡ None) × (K.worth x.total ≡ K.group.zero) × (size x.total ≡ 0)
    first_at v x h e = first (f v) v x (sym (ap (λ l. l.arrival) (b.each v h)) ∙ e)

    calm : (t : Bool) → (begun t b.z).better ≡ None
    calm false = refl
    calm true = refl

    -- a label that is not marked as changed is not there
    absent : (t : Bool) (y : Arrival C) → (begun t b.z).changed ≡ false → (begun t b.z).arrival ≡ Some y → ⊥
    absent false y p q = none-some y q
    absent true y p q = both_ways true p refl

    reach : {v : ℕ} {us : List ℕ} {t : K.Member} → Walk K.group F S v us t → length us ≤ 0 → AtMost K.group (held K (label_at ls v).arrival) t
    reach (start {v = v} q) l =
        let p = starts_from v q in
        let e : label_at ls v ≡ begun true b.z = b.each v p.0 ∙ ap (λ t. begun t b.z) p.1 in
        rw e (rw b.zero.0 (K.group.le_refl K.group.zero))
    reach (step w s) l = absurd (omega arith)

    pub after_none : After K size n F S T 0 ls
    after_none =
        record {
          since = λ v. 0;
          early = λ v. omega arith;
          calm = λ v h. ap (λ l. l.better) (b.each v h) ∙ calm (f v);
          small = λ v x h e. omega (arith, (first_at v x h e).3);
          attained = λ v x h e. let q = first_at v x h e in record { before = []; walk = rw q.2 (start (starts_at v h q.0)); short = omega arith };
          came = λ v x h e. let q = first_at v x h e in inl (q.1, starts_at v h q.0, q.2);
          reach = λ v us t w l. reach w l;
          relaxed = λ u v c y s p q. let h = (ends u v c s).0 in absurd (absent (f u) y (sym (ap (λ l. l.changed) (b.each u h)) ∙ p) (sym (ap (λ l. l.arrival) (b.each u h)) ∙ q));
        }
