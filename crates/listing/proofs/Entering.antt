-- The list that follows an earlier one keeps its order.
use Rattle.std.proofs.Common.{◌≡◌, ℕ, ◌<◌, Bool, true, false, cond, not, ◌&&◌, ◌||◌, eqb, ltb, List, [], ◌∷◌, ◌++◌, sym, refl, ap, ◌∙◌, subst, inl, inr, arith}
use native.Mathlib.Decide.{ℕ_discrete}
use Rattle.std.specs.List.{range_with_len}
use Rattle.std.proofs.lemmas.Bool.{both_ways, cases_Bool, eq-eqb, ne_eqb, eqb-false, ltb-true, lt-ltb, and_parts, and_from, or_cases, or_left, or_right, or_parts, not-true, cond_both}
use Rattle.theory.specs.Walks.{Distinct}
use Rattle.plans.specs.Cuts.{among}
use Rattle.plans.proofs.Sums.{absent_push, among_last}
use Rattle.listing.specs.Lists.{candidate, enter, entered, listed, Before, Ordered}
use Rattle.listing.proofs.Standing.{among_push, not_first, before_right, before_push, before_last, among_counting, before_counting, distinct_counting}

-- a choice between a list with v at its end and one without
pick_same : (p a : Bool) (f : List ℕ → Bool) (xs vs : List ℕ) → f xs ≡ true → f vs ≡ a → f (cond (p && not a) xs vs) ≡ (a || p)
pick_same true true f xs vs h k = k
pick_same true false f xs vs h k = h
pick_same false true f xs vs h k = k
pick_same false false f xs vs h k = k

pick_other : (t : Bool) (f : List ℕ → Bool) (xs vs : List ℕ) → f xs ≡ f vs → f (cond t xs vs) ≡ f vs
pick_other true f xs vs h = h
pick_other false f xs vs h = refl

or_none : (a p : Bool) → a ≡ (a || (p && false))
or_none true p = refl
or_none false true = refl
or_none false false = refl

or_absorb : (a p x : Bool) → ((a || p) || (p && x)) ≡ (a || (p && true))
or_absorb true p x = refl
or_absorb false true x = refl
or_absorb false false x = refl

distinct_push : (v : ℕ) (xs : List ℕ) → Distinct xs → among v xs ≡ false → Distinct (xs ++ v ∷ [])
distinct_push v [] d h = (tt, tt)
distinct_push v (x ∷ xs) d h =
    let p = or_parts (eqb v x) (among v xs) h in
    (absent_push x v xs d.0 (λ e. eqb-false v x p.0 (sym e)), distinct_push v xs d.1 p.1)

-- who is new stands behind the others
new_last : (t : Bool) (u v w : ℕ) (vs : List ℕ) → among u vs ≡ true → among v vs ≡ false → among v (cond t (vs ++ w ∷ []) vs) ≡ true → Before u v (cond t (vs ++ w ∷ []) vs)
new_last false u v w vs h k l = absurd (both_ways (among v vs) k l)
new_last true u v w vs h k l =
    elim (ℕ_discrete v w) [
      | yes e ↦ subst (λ z. Before u v (vs ++ z ∷ [])) e (before_last u v vs h)
      | no q ↦ absurd (both_ways (among v vs) k (ap (λ t. t || among v vs) (sym (ne_eqb v w q)) ∙ sym (among_push v w vs) ∙ l))
    ]

module _ (b : ℕ → Bool) (n : ℕ) where
  enter_same : (v : ℕ) (vs : List ℕ) → among v (enter b n vs v) ≡ (among v vs || candidate b n v)
  enter_same v vs = pick_same (candidate b n v) (among v vs) (among v) (vs ++ v ∷ []) vs (among_last v vs) refl

  pub enter_other : (u v : ℕ) (vs : List ℕ) → (u ≡ v → ⊥) → among u (enter b n vs v) ≡ among u vs
  enter_other u v vs q = pick_other (candidate b n v && not (among v vs)) (among u) (vs ++ v ∷ []) vs (among_push u v vs ∙ ap (λ t. t || among u vs) (ne_eqb u v q))

  pub among_entered : (u : ℕ) (vs us : List ℕ) → among u (entered b n vs us) ≡ (among u vs || (candidate b n u && among u us))
  among_entered u vs [] = or_none (among u vs) (candidate b n u)
  among_entered u vs (v ∷ us) =
      among_entered u (enter b n vs v) us
      ∙ elim (ℕ_discrete u v) [
        | yes e ↦
            let same : among u (enter b n vs v) ≡ (among u vs || candidate b n u) = subst (λ z. among u (enter b n vs z) ≡ (among u vs || candidate b n u)) e (enter_same u vs) in
            ap (λ t. t || (candidate b n u && among u us)) same
            ∙ or_absorb (among u vs) (candidate b n u) (among u us)
            ∙ ap (λ t. among u vs || (candidate b n u && (t || among u us))) (sym (eq-eqb u v e))
        | no q ↦
            ap (λ t. t || (candidate b n u && among u us)) (enter_other u v vs q)
            ∙ ap (λ t. among u vs || (candidate b n u && (t || among u us))) (sym (ne_eqb u v q))
      ]

  among_looked : (u : ℕ) (vs us : List ℕ) → candidate b n u ≡ true → among u us ≡ true → among u (entered b n vs us) ≡ true
  among_looked u vs us p h = among_entered u vs us ∙ or_right (among u vs) (candidate b n u && among u us) (and_from (candidate b n u) (among u us) p h)

  enter_once : (v : ℕ) (vs : List ℕ) → Distinct vs → Distinct (enter b n vs v)
  enter_once v vs d =
      cond_both (candidate b n v && not (among v vs)) (vs ++ v ∷ []) vs Distinct
      (λ h. distinct_push v vs d (not-true (among v vs) (and_parts (candidate b n v) (not (among v vs)) h).1))
      (λ _. d)

  entered_once : (vs us : List ℕ) → Distinct vs → Distinct (entered b n vs us)
  entered_once vs [] d = d
  entered_once vs (v ∷ us) d = entered_once (enter b n vs v) us (enter_once v vs d)

  enter_keeps : (u v w : ℕ) (vs : List ℕ) → Before u v vs → Before u v (enter b n vs w)
  enter_keeps u v w vs h = cond_both (candidate b n w && not (among w vs)) (vs ++ w ∷ []) vs (Before u v) (λ _. before_push u v w vs h) (λ _. h)

  entered_keeps : (u v : ℕ) (vs us : List ℕ) → Before u v vs → Before u v (entered b n vs us)
  entered_keeps u v vs [] h = h
  entered_keeps u v vs (w ∷ us) h = entered_keeps u v (enter b n vs w) us (enter_keeps u v w vs h)

  enter_stays : (u w : ℕ) (vs : List ℕ) → among u vs ≡ true → among u (enter b n vs w) ≡ true
  enter_stays u w vs h = among_entered u vs (w ∷ []) ∙ or_left (among u vs) (candidate b n u && among u (w ∷ [])) h

  -- who is on the list stands before whoever comes later
  older_first : (u v : ℕ) (vs us : List ℕ) → among u vs ≡ true → among v vs ≡ false → among v (entered b n vs us) ≡ true → Before u v (entered b n vs us)
  older_first u v vs [] h k l = absurd (both_ways (among v vs) k l)
  older_first u v vs (w ∷ us) h k l =
      elim (cases_Bool (among v (enter b n vs w))) [
        | inl y ↦ entered_keeps u v (enter b n vs w) us (new_last (candidate b n w && not (among w vs)) u v w vs h k y)
        | inr z ↦ older_first u v (enter b n vs w) us (enter_stays u w vs h) z l
      ]

  -- who is looked at first goes on the list first
  order_entered : (u v : ℕ) (vs us : List ℕ) → Distinct us → candidate b n u ≡ true → candidate b n v ≡ true → among v vs ≡ false → Before u v us → Before u v (entered b n vs us)
  order_entered u v vs [] d p q k h = absurd h
  order_entered u v vs (w ∷ us) d p q k (inl h) =
      let on : among u (enter b n vs w) ≡ true = among_looked u vs (w ∷ []) p (or_left (eqb u w) false (eq-eqb u w h.0)) in
      let off : among v (enter b n vs w) ≡ false = enter_other v w vs (not_first v w us d.0 h.1) ∙ k in
      older_first u v (enter b n vs w) us on off (among_looked v (enter b n vs w) us q h.1)
  order_entered u v vs (w ∷ us) d p q k (inr h) =
      order_entered u v (enter b n vs w) us d.1 p q (enter_other v w vs (not_first v w us d.0 (before_right u v us h)) ∙ k) h

  module _ (earlier : List ℕ) (d : Distinct earlier) where
    only_candidates : (v : ℕ) → among v (listed b n earlier) ≡ true → candidate b n v ≡ true
    only_candidates v h =
        elim (or_cases (among v (entered b n [] earlier)) (candidate b n v && among v (range_with_len 0 n)) (sym (among_entered v (entered b n [] earlier) (range_with_len 0 n)) ∙ h)) [
          | inl e ↦ (and_parts (candidate b n v) (among v earlier) (sym (among_entered v [] earlier) ∙ e)).0
          | inr e ↦ (and_parts (candidate b n v) (among v (range_with_len 0 n)) e).0
        ]

    newcomer : (v : ℕ) → among v earlier ≡ false → among v (entered b n [] earlier) ≡ false
    newcomer v h = among_entered v [] earlier ∙ ap (λ t. candidate b n v && t) h ∙ sym (or_none false (candidate b n v))

    pub keeps_order : Ordered b n earlier (listed b n earlier)
    keeps_order =
        record {
          once = entered_once (entered b n [] earlier) (range_with_len 0 n) (entered_once [] earlier tt);
          only = λ v h. let p = and_parts (ltb v n) (b v) (only_candidates v h) in (ltb-true v n p.0, p.1);
          all = λ v h k. among_looked v (entered b n [] earlier) (range_with_len 0 n) (and_from (ltb v n) (b v) (lt-ltb v n h) k) (among_counting v 0 n (omega arith) (omega arith));
          newcomers_last = λ u v i j k l. older_first u v (entered b n [] earlier) (range_with_len 0 n) (among_looked u [] earlier (only_candidates u i) k) (newcomer v l) j;
          order_kept = λ u v i j h. entered_keeps u v (entered b n [] earlier) (range_with_len 0 n) (order_entered u v [] earlier d (only_candidates u i) (only_candidates v j) refl h);
          newcomers_rise = λ u v i j k l h.
              let p = and_parts (ltb v n) (b v) (only_candidates v j) in
              let below : v < n = ltb-true v n p.0 in
              order_entered u v (entered b n [] earlier) (range_with_len 0 n) (distinct_counting 0 n) (only_candidates u i) (only_candidates v j) (newcomer v l) (before_counting u v 0 n (omega arith) h (omega arith));
        }
