-- What a report leaves.
use Rattle.std.proofs.Common.{◌≡◌, ℕ, ◌<◌, ◌≤◌, cond, eqb, ltb, ◌≢◌, List, length, get_or, set, ℤ, pos, sym, ap, ◌∙◌, ⊎_elim, arith}
use Rattle.std.proofs.lemmas.List.FromFn.{fill_by_all, length-map-range_with_len}
use Rattle.std.proofs.lemmas.List.{length-set, get_or-set_same, get_or-set_other}
use Rattle.std.proofs.lemmas.Bool.{cases_eq, lt-ltb, eq-eqb, ne_eqb, cond-true, cond-false}
use Rattle.records.specs.declared.leg.Mark.{Mark}
use Rattle.network.specs.Nets.{Rule}
use Rattle.network.specs.Offices.{balance_after, balances_after}

-- there are as many balances as before
pub length_after : (a : ℕ) (rule : Rule) (bs : List ℤ) (ks : List Mark) (s : ℕ) (b : ℤ) → length (balances_after a rule bs ks s b) ≡ length bs
length_after a rule bs ks s b = length-map-range_with_len (balance_after a rule bs ks s b) 0 (length bs)

-- an open station has what it reported, or what it had
open_after : (a : ℕ) (rule : Rule) (bs : List ℤ) (ks : List Mark) (s : ℕ) (b : ℤ) (k : ℕ) → s < length bs → k < a
    → get_or (set bs s b) k (pos 0) ≡ balance_after a rule bs ks s b k
open_after a rule bs ks s b k h l =
    let inner : get_or (set bs s b) k (pos 0) ≡ cond (eqb k s) b (get_or bs k (pos 0)) =
    ⊎_elim
    (λ (e : k ≡ s). ap (λ j. get_or (set bs s b) j (pos 0)) e ∙ get_or-set_same bs s b (pos 0) h ∙ sym (cond-true (eqb k s) b (get_or bs k (pos 0)) (eq-eqb k s e)))
    (λ (e : k ≢ s). get_or-set_other bs s k b (pos 0) e ∙ sym (cond-false (eqb k s) b (get_or bs k (pos 0)) (ne_eqb k s e)))
    (cases_eq k s)
    in inner ∙ sym (cond-true (ltb k a) _ _ (lt-ltb k a l))

-- where every station is open, a report sets one balance
pub all_open : (a : ℕ) (rule : Rule) (bs : List ℤ) (ks : List Mark) (s : ℕ) (b : ℤ) → length bs ≤ a → s < length bs
    → set bs s b ≡ balances_after a rule bs ks s b
all_open a rule bs ks s b l h =
    fill_by_all (balance_after a rule bs ks s b) (set bs s b) (length bs) (pos 0) (length-set bs s b)
    (λ k m. open_after a rule bs ks s b k h (omega arith))
