-- Reading one line after the other.
use Rattle.std.proofs.Common.{◌≡◌, ℕ, ◌≤◌, List, [], ◌∷◌, ◌++◌, length, Option, refl, sym, subst, append_assoc, arith}
use Rattle.text_rules.specs.Rows.{first_row, behind}
use Rattle.tally.specs.declared.call.Call.{Call}
use Rattle.call_lines.specs.Entries.{Entered, Read}
use Rattle.call_lines.specs.declared.sizes.Sizes.{Sizes}

-- so many entries are read of an input that whatever reads the rest reads the whole behind them
abbrev pub Sofar : Sizes → List ℕ → List ℕ → List (Option Call) → Type 0
Sofar s input rest entries = (more : List (Option Call)) → Read s rest more → Read s input (entries ++ more)

pub read_more : (s : Sizes) (input rest rest' line : List ℕ) (entries : List (Option Call)) (e : Option Call)
    → Sofar s input rest entries → 1 ≤ length rest → line ≡ first_row rest → rest' ≡ behind rest → Entered s line e → Sofar s input rest' (entries ++ e ∷ [])
read_more s input rest rest' line entries e h some l b entered more r =
    subst (Read s input) (sym (append_assoc entries (e ∷ []) more))
    (h (e ∷ more) (some, subst (λ x. Entered s x e) l entered, subst (λ x. Read s x more) b r))

-- of no entries
pub nothing_left : (xs : List ℕ) → length xs ≡ 0 → xs ≡ []
nothing_left [] e = refl
nothing_left (x ∷ xs) e = let no : ⊥ = omega (arith, e) in absurd no
