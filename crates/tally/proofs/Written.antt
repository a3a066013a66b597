-- A slice whose first entries were written.
use Rattle.std.proofs.Common.{◌≡◌, ℕ, List, ◌++◌, length, take, drop, sym, ap, ◌∙◌, take-append-drop}

pub parts : {X : Type 0} (k : ℕ) (vs before after : List X) → take k after ≡ vs → drop k after ≡ drop k before → k ≡ length vs → after ≡ vs ++ drop (length vs) before
parts {X} k vs before after p q e = sym (take-append-drop k after) ∙ (ap (λ (us : List X). us ++ drop k after) p ∙ (ap (λ (us : List X). vs ++ us) q ∙ ap (λ (m : ℕ). vs ++ drop m before) e))
