-- A text as its rows.
--   rows_step     the first row of a text, and the rows behind it
--   rows_parted   the rows of a text make it up
--   parted_rows   and no other rows do
use Rattle.std.proofs.Common.{◌≡◌, ℕ, ◌≤◌, true, false, cond, eqb, List, [], ◌∷◌, ◌++◌, length, refl, ap, inl, inr, arith}
use Rattle.std.proofs.lemmas.Bool.{eqb-true, eqb-false, ne_eqb, cond_both}
use Rattle.text_rules.specs.Rows.{NoEnd, Parted, first_row, behind, onto, rows}

-- the step, from that of a byte that ends no line
step_from : (b : ℕ) (s : List ℕ) → onto b (rows s) ≡ (b ∷ first_row s) ∷ rows (behind s)
    → rows (b ∷ s) ≡ first_row (b ∷ s) ∷ rows (behind (b ∷ s))
step_from b s e =
    elim (eqb b 10) as (λ t. cond t ([] ∷ rows s) (onto b (rows s)) ≡ cond t [] (b ∷ first_row s) ∷ rows (cond t s (behind s)))
    [ true ↦ refl | false ↦ e ]

pub rows_step : (b : ℕ) (s : List ℕ) → rows (b ∷ s) ≡ first_row (b ∷ s) ∷ rows (behind (b ∷ s))
rows_step b [] = step_from b [] refl
rows_step b (c ∷ s) = step_from b (c ∷ s) (ap (onto b) (rows_step c s))

onto_parted : (b : ℕ) (rs : List (List ℕ)) (s : List ℕ) → (b ≡ 10 → ⊥) → Parted rs s → Parted (onto b rs) (b ∷ s)
onto_parted b [] s n e = ((n, tt), inr (ap (λ r. b ∷ r) e, omega arith, refl))
onto_parted b (row ∷ rest) s n (m, inl (more, e, p)) = ((n, m), inl (more, ap (λ r. b ∷ r) e, p))
onto_parted b (row ∷ rest) s n (m, inr (e, h, z)) = ((n, m), inr (ap (λ r. b ∷ r) e, omega arith, z))

pub rows_parted : (text : List ℕ) → Parted (rows text) text
rows_parted [] = refl
rows_parted (b ∷ s) =
    cond_both (eqb b 10) ([] ∷ rows s) (onto b (rows s)) (λ rs. Parted rs (b ∷ s))
    (λ e. (tt, inl (s, ap (λ c. c ∷ s) (eqb-true b 10 e), rows_parted s)))
    (λ e. onto_parted b (rows s) s (eqb-false b 10 e) (rows_parted s))

-- the rows where a row stands first
rows_ended : (row more : List ℕ) → NoEnd row → rows (row ++ (10 ∷ more)) ≡ row ∷ rows more
rows_ended [] more n = refl
rows_ended (b ∷ row) more n = rw (ne_eqb b 10 n.0, rows_ended row more n.1)

-- the rows where a row is all
rows_alone : (row : List ℕ) → NoEnd row → 1 ≤ length row → rows row ≡ row ∷ []
rows_alone [] n h = absurd (omega arith)
rows_alone (b ∷ []) n h = rw (ne_eqb b 10 n.0)
rows_alone (b ∷ c ∷ row) n h = rw (ne_eqb b 10 n.0, rows_alone (c ∷ row) n.1 (omega arith))

pub parted_rows : (rs : List (List ℕ)) (text : List ℕ) → Parted rs text → rs ≡ rows text
parted_rows [] text e = rw e
parted_rows (row ∷ rest) text (n, inl (more, e, p)) =
    rw (e, rows_ended row more n) (ap (λ r. row ∷ r) (parted_rows rest more p))
parted_rows (row ∷ rest) text (n, inr (e, h, z)) = rw (e, z, rows_alone row n h)
