-- The pigeonhole: different numbers below n are at most n.
use Rattle.std.proofs.Common.{◌≡◌, ℕ, ◌<◌, ◌≤◌, true, false, eqb, List, [], ◌∷◌, length}
use native.Mathlib.Decide.{ℕ_discrete}
use Rattle.std.specs.List.{AllByRecursion, IsDistinct, list_any}
use Rattle.std.proofs.lemmas.Bool.{ne_eqb}
use Rattle.std.proofs.lemmas.Map.Steps.{length-le_from_distinct_below}
use Rattle.theory.specs.Walks.{Absent, Distinct}

-- by the test that the library says it by
none_equal : (v : ℕ) (vs : List ℕ) → Absent v vs → AllByRecursion (λ u. eqb v u ≡ false) vs
none_equal v [] h = tt
none_equal v (u ∷ us) h = (ne_eqb v u h.0, none_equal v us h.1)

are_distinct : (vs : List ℕ) → Distinct vs → IsDistinct eqb vs
unfolding IsDistinct
are_distinct [] h = tt
are_distinct (v ∷ vs) h = (none_equal v vs h.0, are_distinct vs h.1)

each_below : (n : ℕ) (vs : List ℕ) → AllByRecursion (λ v. v < n) vs → (q : ℕ) → list_any (eqb q) vs ≡ true → q < n
each_below n [] h q k = cc
each_below n (v ∷ vs) h q k =
    elim (ℕ_discrete q v) [
      | yes e ↦ rw e h.0
      | no d ↦ each_below n vs h.1 q (rw (ne_eqb q v d) at k)
    ]

pub few : (n : ℕ) (vs : List ℕ) → Distinct vs → AllByRecursion (λ v. v < n) vs → length vs ≤ n
few n vs d h = length-le_from_distinct_below vs n (are_distinct vs d) (each_below n vs h)
