-- Where a row ends.
use Rattle.std.proofs.Common.{◌≡◌, ℕ, suc, ◌+◌, ◌<◌, ◌≤◌, min, List, [], ◌∷◌, length, get_or, take, drop, MatchOption, Option, sym, refl, ap, ◌∙◌, ⊎_elim, add_assoc, arith}
use Rattle.std.proofs.lemmas.List.{drop_more, drop_all, drop-drop}
use Rattle.std.proofs.lemmas.Bool.{eq-eqb, ne_eqb, cases_eq, cases_lt}
use Rattle.std.specs.Option.{unwrap_or}
use Rattle.std.specs.List.{AllWithin, HoldsAt}
use Rattle.std.proofs.lemmas.Iterator.{index_from_first}
use Rattle.text_rules.specs.Rows.{first_row, behind, rows}
use Rattle.text_rules.proofs.Parting.{rows_step}
use Rattle.reader.specs.Taking.{row_at, next_place}

first_length : (b : ℕ) (s : List ℕ) → (b ≡ 10 → ⊥) → length (first_row (b ∷ s)) ≡ length (first_row s) + 1
first_length b s ne = rw (ne_eqb b 10 ne) (omega arith)

first_ends : (b : ℕ) (s : List ℕ) → b ≡ 10 → length (first_row (b ∷ s)) ≡ 0
first_ends b s e = rw (eq-eqb b 10 e)

-- the first line end, where there is one, is as far as the first row is long
pub row_end : (s : List ℕ) (r : Option ℕ)
    → MatchOption r (AllWithin (λ b. b ≡ 10 → ⊥) s 0 (length s)) (λ i. (i < length s) × HoldsAt (λ b. b ≡ 10) s i × AllWithin (λ b. b ≡ 10 → ⊥) s 0 i)
    → length (first_row s) ≡ unwrap_or r (length s)
row_end s r = index_from_first (λ t. length (first_row t)) (λ b. b ≡ 10) (λ b. b ≡ 10 → ⊥) refl first_ends first_length s r

first_front : (s : List ℕ) → first_row s ≡ take (length (first_row s)) s
first_front [] = refl
first_front (b ∷ s) =
    ⊎_elim
    (λ (e : b ≡ 10). rw (eq-eqb b 10 e) refl)
    (λ (ne : b ≡ 10 → ⊥). rw (ne_eqb b 10 ne) (ap (λ t. b ∷ t) (first_front s)))
    (cases_eq b 10)

behind_drop : (s : List ℕ) → behind s ≡ drop (length (first_row s) + 1) s
behind_drop [] = refl
behind_drop (b ∷ s) =
    ⊎_elim
    (λ (e : b ≡ 10). rw (eq-eqb b 10 e) refl)
    (λ (ne : b ≡ 10 → ⊥).
    let n : ℕ = length (first_row s) in
    let e : suc (n + 1) ≡ suc n + 1 = omega arith in
    rw (ne_eqb b 10 ne) (behind_drop s ∙ ap (λ k. drop k (b ∷ s)) e))
    (cases_eq b 10)

-- so many bytes are the first row
pub row_front : (s : List ℕ) (n : ℕ) → length (first_row s) ≡ n → first_row s ≡ take n s
row_front s n e = first_front s ∙ ap (λ k. take k s) e

pub row_behind : (s : List ℕ) (n : ℕ) → length (first_row s) ≡ n → behind s ≡ drop (n + 1) s
row_behind s n e = behind_drop s ∙ ap (λ k. drop (k + 1) s) e

drop_min : (n : ℕ) (xs : List ℕ) → drop n xs ≡ drop (min (length xs) n) xs
drop_min n xs =
    ⊎_elim
    (λ (h : n < length xs). let e : min (length xs) n ≡ n = grind arith in rw e refl)
    (λ (h : length xs ≤ n). let e : min (length xs) n ≡ length xs = grind arith in rw e (drop_all n xs h ∙ sym (drop_all (length xs) xs (omega arith))))
    (cases_lt n (length xs))

-- the rows from a place on are the row there and those from the next place on
pub rows_at : (text : List ℕ) (place : ℕ) → place < length text
    → rows (drop place text) ≡ row_at text place ∷ rows (drop (next_place text place) text)
rows_at text place h =
    let s : List ℕ = drop place text in
    let r : ℕ = length (first_row s) in
    let whole : rows s ≡ first_row s ∷ rows (behind s) =
    rw (drop_more text place 0 h) (rows_step (get_or text place 0) (drop (place + 1) text)) in
    let next : behind s ≡ drop (next_place text place) text =
    behind_drop s ∙ drop-drop (r + 1) place text ∙ ap (λ n. drop n text) (sym (add_assoc place r 1)) ∙ drop_min (place + r + 1) text in
    whole ∙ ap (λ t. first_row s ∷ rows t) next
