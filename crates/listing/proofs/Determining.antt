-- The order of a list determines it.
use Rattle.std.proofs.Common.{◌≡◌, ℕ, ◌<◌, Bool, true, false, eqb, ◌⊎◌, List, [], ◌∷◌, sym, refl, ap, ◌∙◌, subst, inl, inr}
use native.Mathlib.Decide.{ℕ_discrete}
use Rattle.std.proofs.lemmas.Bool.{both_ways, cases_Bool, cases_order, or_right}
use Rattle.theory.specs.Walks.{Distinct}
use Rattle.plans.specs.Cuts.{among}
use Rattle.plans.proofs.Sums.{among_here}
use Rattle.listing.specs.Lists.{listed, Before, Ordered}
use Rattle.listing.proofs.Standing.{among_rest, not_first, before_left, before_right, before_total, before_once}
use Rattle.listing.proofs.Entering.{keeps_order}

-- two lists that name the same, each once, and in the same order
pub same_list : (xs ys : List ℕ) → Distinct xs → Distinct ys → ((v : ℕ) → among v xs ≡ true → among v ys ≡ true) → ((v : ℕ) → among v ys ≡ true → among v xs ≡ true)
    → ((u v : ℕ) → Before u v xs → Before u v ys) → xs ≡ ys
same_list [] [] d e f g h = refl
same_list [] (y ∷ ys) d e f g h = absurd (both_ways false refl (g y (among_here y ys)))
same_list (x ∷ xs) [] d e f g h = absurd (both_ways false refl (f x (among_here x xs)))
same_list (x ∷ xs) (y ∷ ys) d e f g h =
    elim (ℕ_discrete x y) [
      | no q ↦
          let behind : among y xs ≡ true = among_rest y x xs (λ r. q (sym r)) (g y (among_here y ys)) in
          absurd (elim (h x y (inl (refl, behind))) [
            | inl p ↦ q p.0
            | inr b ↦ not_first y y ys e.0 (before_right x y ys b) refl
          ])
      | yes q ↦
          let rest : xs ≡ ys =
          same_list xs ys d.1 e.1
          (λ v i. among_rest v y ys (λ r. not_first v x xs d.0 i (r ∙ sym q)) (f v (or_right (eqb v x) (among v xs) i)))
          (λ v i. among_rest v x xs (λ r. not_first v y ys e.0 i (r ∙ q)) (g v (or_right (eqb v y) (among v ys) i)))
          (λ u v b. elim (h u v (inr b)) [
            | inl p ↦ absurd (not_first u x xs d.0 (before_left u v xs b) (p.0 ∙ sym q))
            | inr c ↦ c
          ]) in
          ap (λ z. z ∷ xs) q ∙ ap (λ zs. y ∷ zs) rest
    ]

module _ (b : ℕ → Bool) (n : ℕ) (earlier : List ℕ) where
  -- of two that belong, the same one comes first on every such list
  ranked : (u v : ℕ) → (u ≡ v → ⊥) → (u < n) × (b u ≡ true) → (v < n) × (b v ≡ true)
      → ((zs : List ℕ) → Ordered b n earlier zs → Before u v zs) ⊎ ((zs : List ℕ) → Ordered b n earlier zs → Before v u zs)
  ranked u v q i j =
      elim (cases_Bool (among u earlier)) [
        | inl k ↦ elim (cases_Bool (among v earlier)) [
          | inl l ↦ elim (before_total u v earlier q k l) [
            | inl p ↦ inl (λ zs o. o.order_kept u v (o.all u i.0 i.1) (o.all v j.0 j.1) p)
            | inr p ↦ inr (λ zs o. o.order_kept v u (o.all v j.0 j.1) (o.all u i.0 i.1) p)
          ]
          | inr l ↦ inl (λ zs o. o.newcomers_last u v (o.all u i.0 i.1) (o.all v j.0 j.1) k l)
        ]
        | inr k ↦ elim (cases_Bool (among v earlier)) [
          | inl l ↦ inr (λ zs o. o.newcomers_last v u (o.all v j.0 j.1) (o.all u i.0 i.1) l k)
          | inr l ↦ elim (cases_order u v) [
            | inl p ↦ absurd (q p)
            | inr p ↦ elim p [
              | inl r ↦ inl (λ zs o. o.newcomers_rise u v (o.all u i.0 i.1) (o.all v j.0 j.1) k l r)
              | inr r ↦ inr (λ zs o. o.newcomers_rise v u (o.all v j.0 j.1) (o.all u i.0 i.1) l k r)
            ]
          ]
        ]
      ]

  same_before : (xs ys : List ℕ) → Ordered b n earlier xs → Ordered b n earlier ys → (u v : ℕ) → Before u v xs → Before u v ys
  same_before xs ys o p u v h =
      let apart : u ≡ v → ⊥ = λ e. before_once u v xs o.once h (subst (λ z. Before z u xs) e (subst (λ z. Before u z xs) (sym e) h)) in
      elim (ranked u v apart (o.only u (before_left u v xs h)) (o.only v (before_right u v xs h))) [
        | inl f ↦ f ys p
        | inr f ↦ absurd (before_once u v xs o.once h (f xs o))
      ]

  same_ordered : (xs ys : List ℕ) → Ordered b n earlier xs → Ordered b n earlier ys → xs ≡ ys
  same_ordered xs ys o p =
      same_list xs ys o.once p.once
      (λ v i. let k = o.only v i in p.all v k.0 k.1)
      (λ v i. let k = p.only v i in o.all v k.0 k.1)
      (same_before xs ys o p)

  pub determined : (now : List ℕ) → Distinct earlier → Ordered b n earlier now → now ≡ listed b n earlier
  determined now d o = same_ordered now (listed b n earlier) o (keeps_order b n earlier d)
