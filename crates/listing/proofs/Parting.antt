-- The list that follows an earlier one, in two parts.
use Rattle.std.proofs.Common.{◌≡◌, ℕ, Bool, true, false, cond, not, ◌&&◌, eqb, List, [], ◌∷◌, ◌++◌, filter, sym, refl, ap, ◌∙◌}
use Rattle.std.specs.List.{range_with_len}
use Rattle.std.proofs.lemmas.List.{append_assoc, append-nil}
use Rattle.std.proofs.lemmas.Bool.{or_right}
use Rattle.theory.specs.Walks.{Distinct}
use Rattle.plans.specs.Cuts.{among}
use Rattle.plans.proofs.Sums.{among_here}
use Rattle.listing.specs.Lists.{candidate, enter, entered, listed, stayers, newcomers}
use Rattle.listing.proofs.Standing.{not_first, distinct_counting}
use Rattle.listing.proofs.Entering.{among_entered, enter_other}

-- two tests that agree on a list keep the same of it
kept_alike : (p q : ℕ → Bool) (xs : List ℕ) → ((v : ℕ) → among v xs ≡ true → p v ≡ q v) → filter p xs ≡ filter q xs
kept_alike p q [] h = refl
kept_alike p q (x ∷ xs) h =
    ap (λ t. cond t (x ∷ filter p xs) (filter p xs)) (h x (among_here x xs))
    ∙ ap (λ ys. cond (q x) (x ∷ ys) ys) (kept_alike p q xs (λ v i. h v (or_right (eqb v x) (among v xs) i)))

-- put at the end of what is before, or at the start of what is behind
moved_over : (t : Bool) (v : ℕ) (vs ks : List ℕ) → cond t (vs ++ v ∷ []) vs ++ ks ≡ vs ++ cond t (v ∷ ks) ks
moved_over true v vs ks = append_assoc vs (v ∷ []) ks
moved_over false v vs ks = refl

and_true : (p : Bool) → (p && not false) ≡ p
and_true true = refl
and_true false = refl

and_not_both : (p e : Bool) → (p && not (p && e)) ≡ (p && not e)
and_not_both true e = refl
and_not_both false e = refl

module _ (b : ℕ → Bool) (n : ℕ) where
  -- a candidate that is not on a list
  abbrev fresh : List ℕ → ℕ → Bool
  fresh vs v = candidate b n v && not (among v vs)

  entered_parts : (vs us : List ℕ) → Distinct us → entered b n vs us ≡ vs ++ filter (fresh vs) us
  entered_parts vs [] d = sym (append-nil vs)
  entered_parts vs (w ∷ us) d =
      entered_parts (enter b n vs w) us d.1
      ∙ ap (λ ks. enter b n vs w ++ ks) (kept_alike (fresh (enter b n vs w)) (fresh vs) us (λ v i. ap (λ t. candidate b n v && not t) (enter_other b n v w vs (not_first v w us d.0 i))))
      ∙ moved_over (fresh vs w) w vs (filter (fresh vs) us)

  pub in_two_parts : (earlier : List ℕ) → Distinct earlier → listed b n earlier ≡ stayers b n earlier ++ newcomers b n earlier
  in_two_parts earlier d =
      let stay : entered b n [] earlier ≡ stayers b n earlier = entered_parts [] earlier d ∙ kept_alike (fresh []) (candidate b n) earlier (λ v _. and_true (candidate b n v)) in
      entered_parts (entered b n [] earlier) (range_with_len 0 n) (distinct_counting 0 n)
      ∙ ap (λ vs. vs ++ filter (fresh (entered b n [] earlier)) (range_with_len 0 n)) stay
      ∙ ap (λ ks. stayers b n earlier ++ ks) (kept_alike (fresh (entered b n [] earlier)) (fresh earlier) (range_with_len 0 n)
      (λ v _. ap (λ t. candidate b n v && not t) (among_entered b n v [] earlier) ∙ and_not_both (candidate b n v) (among v earlier)))
