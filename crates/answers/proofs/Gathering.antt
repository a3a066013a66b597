-- The answers of a network, one after another, are the lists of its meaning.
use Rattle.std.proofs.Common.{◌≡◌, ℕ, suc, ◌+◌, List, [], ◌∷◌, length, Option, sym, refl, ap, ◌∙◌, arith}
use Rattle.std.specs.List.{cons_option, slice_get, range_with_len, filter_map}

-- from a number on, a question that is answered as the list is
gathered_behind : {X : Type 0} (xs : List X) (k : ℕ) (f : ℕ → Option X) → ((i : ℕ) → f (k + i) ≡ slice_get xs i)
    → filter_map f (range_with_len k (length xs)) ≡ xs
gathered_behind [] k f h = refl
gathered_behind (x ∷ xs) k f h =
    let first : k + 0 ≡ k = omega arith in
    let next : (i : ℕ) → (k + 1) + i ≡ k + suc i = λ i. omega arith in
    ap (λ o. cons_option o (filter_map f (range_with_len (k + 1) (length xs)))) (sym (ap f first) ∙ h 0)
    ∙ ap (λ rest. x ∷ rest) (gathered_behind xs (k + 1) f (λ i. ap f (next i) ∙ h (suc i)))

pub gathered : {X : Type 0} (xs : List X) → filter_map (slice_get xs) (range_with_len 0 (length xs)) ≡ xs
gathered xs =
    let same : (i : ℕ) → 0 + i ≡ i = λ i. omega arith in
    gathered_behind xs 0 (slice_get xs) (λ i. ap (slice_get xs) (same i))
