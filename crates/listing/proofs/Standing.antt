-- Who stands on a list, and before whom.
use Rattle.std.proofs.Common.{◌≡◌, ℕ, zero, suc, ◌+◌, ◌<◌, ◌≤◌, Bool, true, false, ◌||◌, eqb, ◌⊎◌, List, [], ◌∷◌, ◌++◌, sym, refl, ap, ◌∙◌, inl, inr, arith}
use native.Mathlib.Decide.{ℕ_discrete}
use Rattle.std.specs.List.{range_with_len}
use Rattle.std.proofs.lemmas.Bool.{both_ways, eq-eqb, ne_eqb, or_left, or_right}
use Rattle.theory.specs.Walks.{Absent, Distinct}
use Rattle.plans.specs.Cuts.{among}
use Rattle.plans.proofs.Sums.{absent_among, among_last}
use Rattle.listing.specs.Lists.{Before}

or_swap : (x y z : Bool) → (x || (y || z)) ≡ (y || (x || z))
or_swap true true z = refl
or_swap true false z = refl
or_swap false true z = refl
or_swap false false z = refl

-- one more at the end
pub among_push : (v u : ℕ) (xs : List ℕ) → among v (xs ++ u ∷ []) ≡ (eqb v u || among v xs)
among_push v u [] = refl
among_push v u (x ∷ xs) = ap (λ t. eqb v x || t) (among_push v u xs) ∙ or_swap (eqb v x) (eqb v u) (among v xs)

-- not the first, so among the rest
pub among_rest : (v x : ℕ) (xs : List ℕ) → (v ≡ x → ⊥) → among v (x ∷ xs) ≡ true → among v xs ≡ true
among_rest v x xs q h = ap (λ t. t || among v xs) (sym (ne_eqb v x q)) ∙ h

-- who is among the rest of a list that names nobody twice is not the first
pub not_first : (v x : ℕ) (xs : List ℕ) → Absent x xs → among v xs ≡ true → v ≡ x → ⊥
not_first v x xs a h e = both_ways (among v xs) (ap (λ w. among w xs) e ∙ absent_among x xs a) h

pub before_left : (u v : ℕ) (xs : List ℕ) → Before u v xs → among u xs ≡ true
before_left u v [] b = absurd b
before_left u v (x ∷ xs) (inl p) = or_left (eqb u x) (among u xs) (eq-eqb u x p.0)
before_left u v (x ∷ xs) (inr b) = or_right (eqb u x) (among u xs) (before_left u v xs b)

pub before_right : (u v : ℕ) (xs : List ℕ) → Before u v xs → among v xs ≡ true
before_right u v [] b = absurd b
before_right u v (x ∷ xs) (inl p) = or_right (eqb v x) (among v xs) p.1
before_right u v (x ∷ xs) (inr b) = or_right (eqb v x) (among v xs) (before_right u v xs b)

pub before_push : (u v w : ℕ) (xs : List ℕ) → Before u v xs → Before u v (xs ++ w ∷ [])
before_push u v w [] b = absurd b
before_push u v w (x ∷ xs) (inl p) = inl (p.0, among_push v w xs ∙ or_right (eqb v w) (among v xs) p.1)
before_push u v w (x ∷ xs) (inr b) = inr (before_push u v w xs b)

pub before_last : (u v : ℕ) (xs : List ℕ) → among u xs ≡ true → Before u v (xs ++ v ∷ [])
before_last u v [] h = absurd (both_ways false refl h)
before_last u v (x ∷ xs) h =
    elim (ℕ_discrete u x) [
      | yes e ↦ inl (e, among_last v xs)
      | no q ↦ inr (before_last u v xs (among_rest u x xs q h))
    ]

-- of two on a list one stands before the other
pub before_total : (u v : ℕ) (xs : List ℕ) → (u ≡ v → ⊥) → among u xs ≡ true → among v xs ≡ true → Before u v xs ⊎ Before v u xs
before_total u v [] d h k = absurd (both_ways false refl h)
before_total u v (x ∷ xs) d h k =
    elim (ℕ_discrete u x) [
      | yes e ↦ inl (inl (e, among_rest v x xs (λ f. d (e ∙ sym f)) k))
      | no q ↦ elim (ℕ_discrete v x) [
        | yes f ↦ inr (inl (f, among_rest u x xs q h))
        | no r ↦ elim (before_total u v xs d (among_rest u x xs q h) (among_rest v x xs r k)) [
          | inl b ↦ inl (inr b)
          | inr b ↦ inr (inr b)
        ]
      ]
    ]

-- and not the other way round, where nobody is named twice
pub before_once : (u v : ℕ) (xs : List ℕ) → Distinct xs → Before u v xs → Before v u xs → ⊥
before_once u v [] d b c = b
before_once u v (x ∷ xs) d (inl p) (inl q) = not_first v x xs d.0 p.1 q.0
before_once u v (x ∷ xs) d (inl p) (inr c) = not_first u x xs d.0 (before_right v u xs c) p.0
before_once u v (x ∷ xs) d (inr b) (inl q) = not_first v x xs d.0 (before_right u v xs b) q.0
before_once u v (x ∷ xs) d (inr b) (inr c) = before_once u v xs d.1 b c

-- all numbers, rising
pub absent_counting : (v a n : ℕ) → v < a → Absent v (range_with_len a n)
absent_counting v a zero h = tt
absent_counting v a (suc n) h = (λ e. omega arith, absent_counting v (a + 1) n (omega arith))

pub distinct_counting : (a n : ℕ) → Distinct (range_with_len a n)
distinct_counting a zero = tt
distinct_counting a (suc n) = (absent_counting a (a + 1) n (omega arith), distinct_counting (a + 1) n)

pub among_counting : (v a n : ℕ) → a ≤ v → v < a + n → among v (range_with_len a n) ≡ true
among_counting v a zero h k = absurd (omega arith)
among_counting v a (suc n) h k =
    elim (ℕ_discrete v a) [
      | yes e ↦ or_left (eqb v a) (among v (range_with_len (a + 1) n)) (eq-eqb v a e)
      | no q ↦ or_right (eqb v a) (among v (range_with_len (a + 1) n)) (among_counting v (a + 1) n (omega arith) (omega arith))
    ]

pub before_counting : (u v a n : ℕ) → a ≤ u → u < v → v < a + n → Before u v (range_with_len a n)
before_counting u v a zero h l k = absurd (omega arith)
before_counting u v a (suc n) h l k =
    elim (ℕ_discrete u a) [
      | yes e ↦ inl (e, among_counting v (a + 1) n (omega arith) (omega arith))
      | no q ↦ inr (before_counting u v (a + 1) n (omega arith) l (omega arith))
    ]
