-- Rounds of relaxing the steps of a list (Bellman–Ford): least totals exist where no round trip below zero is reached.
use Rattle.std.proofs.Common.{◌≡◌, ℕ, zero, suc, ◌<◌, Bool, true, cond, eqb, ◌⊎◌, List, [], ◌∷◌, Some, None, Option, refl, subst, inl, inr}
use Rattle.std.proofs.lemmas.Bool.{cond_both, eq-eqb, eqb-true}
use Rattle.theory.specs.Groups.{OrderedGroup}
use Rattle.theory.specs.Walks.{Walk, start, step, Least, Price, Reached, Rounds, Edge, Among, Passes, AtMost}
use Rattle.theory.proofs.Adding
use Rattle.theory.proofs.Walking

module _ {A : Type 0} (G : OrderedGroup A) where
  -- ---- labels, absent or there
  abbrev pick : (a b : A) → G.le a b ⊎ (G.le a b → ⊥) → Option A
  pick a b (inl h) = Some a
  pick a b (inr h) = Some b

  -- the lower of two labels
  abbrev lower : Option A → Option A → Option A
  lower None p = p
  lower (Some a) None = Some a
  lower (Some a) (Some b) = pick a b (G.le_decide a b)

  abbrev raised : Option A → A → Option A
  raised None c = None
  raised (Some a) c = Some (G.add a c)

  pick_left : (a b : A) (q : G.le a b ⊎ (G.le a b → ⊥)) (t : A) → G.le a t → AtMost G (pick a b q) t
  pick_left a b (inl h) t k = k
  pick_left a b (inr h) t k = elim (G.le_total a b) [ inl i ↦ absurd (h i) | inr i ↦ G.le_trans _ _ _ i k ]

  pick_right : (a b : A) (q : G.le a b ⊎ (G.le a b → ⊥)) (t : A) → G.le b t → AtMost G (pick a b q) t
  pick_right a b (inl h) t k = G.le_trans _ _ _ h k
  pick_right a b (inr h) t k = k

  lower_left : (o p : Option A) (t : A) → AtMost G o t → AtMost G (lower o p) t
  lower_left None p t h = absurd h
  lower_left (Some a) None t h = h
  lower_left (Some a) (Some b) t h = pick_left a b (G.le_decide a b) t h

  lower_right : (o p : Option A) (t : A) → AtMost G p t → AtMost G (lower o p) t
  lower_right None p t h = h
  lower_right (Some a) None t h = absurd h
  lower_right (Some a) (Some b) t h = pick_right a b (G.le_decide a b) t h

  raised_at : (o : Option A) (c t : A) → AtMost G o t → AtMost G (raised o c) (G.add t c)
  raised_at None c t h = absurd h
  raised_at (Some a) c t h = Adding.shift_right G a t c h

  -- what holds of a label that is there
  abbrev Holds : (A → Type 0) → Option A → Type 0
  Holds P None = Unit {0}
  Holds P (Some a) = P a

  pick_holds : (P : A → Type 0) (a b : A) (q : G.le a b ⊎ (G.le a b → ⊥)) → P a → P b → Holds P (pick a b q)
  pick_holds P a b (inl h) x y = x
  pick_holds P a b (inr h) x y = y

  lower_holds : (P : A → Type 0) (o p : Option A) → Holds P o → Holds P p → Holds P (lower o p)
  lower_holds P None p x y = y
  lower_holds P (Some a) None x y = x
  lower_holds P (Some a) (Some b) x y = pick_holds P a b (G.le_decide a b) x y

  -- ---- one round: each step of the list lowers the label of its end
  abbrev relax : List (Edge A) → (ℕ → Option A) → ℕ → Option A
  relax [] d v = d v
  relax (e ∷ es) d v = cond (eqb e.to v) (lower (raised (d e.from) e.cost) (relax es d v)) (relax es d v)

  relax_keeps : (es : List (Edge A)) (d : ℕ → Option A) (v : ℕ) (t : A) → AtMost G (d v) t → AtMost G (relax es d v) t
  relax_keeps [] d v t h = h
  relax_keeps (e ∷ es) d v t h =
      let k = relax_keeps es d v t h in
      cond_both (eqb e.to v) _ _ (λ o. AtMost G o t) (λ _. lower_right (raised (d e.from) e.cost) (relax es d v) t k) (λ _. k)

  relax_steps : (es : List (Edge A)) (d : ℕ → Option A) (u v : ℕ) (c t : A) → Among es u v c → AtMost G (d u) t → AtMost G (relax es d v) (G.add t c)
  relax_steps [] d u v c t s h = absurd s
  relax_steps (e ∷ es) d u v c t (inl s) h =
      rw (eq-eqb e.to v s.1) (lower_left (raised (d e.from) e.cost) (relax es d v) (G.add t c) (rw (s.0, s.2) (raised_at (d u) c t h)))
  relax_steps (e ∷ es) d u v c t (inr s) h =
      let k = relax_steps es d u v c t s h in
      cond_both (eqb e.to v) _ _ (λ o. AtMost G o (G.add t c)) (λ _. lower_right (raised (d e.from) e.cost) (relax es d v) (G.add t c) k) (λ _. k)

  module _ (f : ℕ → Bool) (all : List (Edge A)) where
    abbrev pub rounds : ℕ → ℕ → Option A
    rounds zero v = cond (f v) (Some G.zero) None
    rounds (suc k) v = relax all (rounds k) v

    first_round : (v : ℕ) → f v ≡ true → AtMost G (rounds 0 v) G.zero
    first_round v h = rw h (G.le_refl G.zero)

    are_rounds : Rounds G (Passes f) (Among all) (λ k v t. AtMost G (rounds k v) t)
    are_rounds =
        record {
          first = first_round;
          falls = λ k v t h. relax_keeps all (rounds k) v t h;
          relaxed = λ k u v t c h s. relax_steps all (rounds k) u v c t s h;
        }

    -- ---- every label is the total of a walk
    abbrev Attained : ℕ → A → Type 0
    Attained v t = (us : List ℕ) × Walk G (Passes f) (Among all) v us t

    raised_attained : (u v : ℕ) (c : A) (o : Option A) → Among all u v c → Holds (Attained u) o → Holds (Attained v) (raised o c)
    raised_attained u v c None s h = tt
    raised_attained u v c (Some a) s h = (u ∷ h.0, step h.1 s)

    relax_attained : (es : List (Edge A)) → ((u v : ℕ) (c : A) → Among es u v c → Among all u v c) → (d : ℕ → Option A) → ((v : ℕ) → Holds (Attained v) (d v)) → (v : ℕ) → Holds (Attained v) (relax es d v)
    relax_attained [] sub d h v = h v
    relax_attained (e ∷ es) sub d h v =
        let k = relax_attained es (λ u w c s. sub u w c (inr s)) d h v in
        cond_both (eqb e.to v) _ _ (Holds (Attained v))
        (λ q. lower_holds (Attained v) (raised (d e.from) e.cost) (relax es d v) (raised_attained e.from v e.cost (d e.from) (sub _ _ _ (inl (refl, eqb-true e.to v q, refl))) (h e.from)) k)
        (λ _. k)

    attained : (k v : ℕ) → Holds (Attained v) (rounds k v)
    attained zero v = cond_both (f v) _ _ (Holds (Attained v)) (λ h. ([], start h)) (λ _. tt)
    attained (suc k) v = relax_attained all (λ u w c s. s) (rounds k) (attained k) v

    -- ---- after m rounds over stations below m + 1
    module _ (none : Reached G (Passes f) (Among all) → ⊥) (m : ℕ) (below : (u v : ℕ) (c : A) → Among all u v c → u < suc m) (v : ℕ) (h : v < suc m) where
      reached : (us : List ℕ) (t : A) → Walk G (Passes f) (Among all) v us t → (AtMost G (rounds m v) t → ⊥) → ⊥
      reached us t w g = none (Walking.shows_trip G (Passes f) (Among all) _ are_rounds m below (λ u s r l. Walking.at_most_up G (rounds m u) s r l) v h us t w g)

      least_from : (o : Option A) → rounds m v ≡ o → Holds (Attained v) o → (us : List ℕ) (t : A) → Walk G (Passes f) (Among all) v us t → (s : A) × Least G (Passes f) (Among all) v s
      least_from None e k us t w = absurd (reached us t w (λ i. subst (λ o. AtMost G o t) e i))
      least_from (Some a) e k us t w = (
        a,
        record {
          before = k.0;
          attained = k.1;
          least = λ us' s w'. elim (G.le_decide a s) [ inl i ↦ i | inr i ↦ absurd (reached us' s w' (λ q. i (subst (λ o. AtMost G o s) e q))) ];
        },
      )

      pub exists : (us : List ℕ) (t : A) → Walk G (Passes f) (Among all) v us t → (s : A) × Least G (Passes f) (Among all) v s × Price G (Passes f) (Among all) v s
      exists us t w =
          let r = least_from (rounds m v) refl (attained m v) us t w in
          (r.0, r.1, Walking.least_price G (Passes f) (Among all) none v r.0 r.1)
