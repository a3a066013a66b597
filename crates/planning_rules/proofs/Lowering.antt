-- The lowest number that passes a test.
use Rattle.std.proofs.Common.{◌≡◌, ℕ, zero, suc, ◌<◌, ◌≤◌, Bool, true, false, cond, Some, None, Option, sym, refl, ap, ◌∙◌, arith, MatchOption}
use native.Mathlib.Decide.{ℕ_discrete}
use Rattle.std.specs.Option.{option_or}
use Rattle.planning_rules.specs.Checks.{lowest}
use Rattle.planning_rules.specs.Theorems.{NoneBelow, Lowest, LowestSays}

-- ---- one number more
next_none : (passes : ℕ → Bool) (m : ℕ) (b : Bool) → passes m ≡ b → NoneBelow passes m → MatchOption (cond b (Some m) None) (NoneBelow passes (suc m)) (Lowest passes (suc m))
next_none passes m true e n = record { below = omega arith; here = e; none_lower = n }
next_none passes m false e n = λ k h p.
    elim (ℕ_discrete k m) [
      | yes q ↦ let z : ◌≡◌ {A = Bool} true false = sym p ∙ ap passes q ∙ e in let y : ◌≡◌ {A = ℕ} 0 1 = cc in omega arith
      | no d ↦ n k (omega arith) p
    ]

next : (passes : ℕ → Bool) (m : ℕ) (o : Option ℕ) → MatchOption o (NoneBelow passes m) (Lowest passes m) → MatchOption (option_or o (cond (passes m) (Some m) None)) (NoneBelow passes (suc m)) (Lowest passes (suc m))
next passes m None h = next_none passes m (passes m) refl h
next passes m (Some k) h = record { below = omega (arith, h.below); here = h.here; none_lower = h.none_lower }

pub says : LowestSays
says passes zero = λ k h p. absurd (omega arith)
says passes (suc m) = next passes m (lowest passes m) (says passes m)

-- ---- none below, and then one
later : (passes : ℕ → Bool) (m k : ℕ) → lowest passes m ≡ None → passes m ≡ true → m < k → lowest passes k ≡ Some m
later passes m zero e p h = absurd (omega arith)
later passes m (suc k) e p h =
    elim (ℕ_discrete m k) [
      | yes q ↦ rw (← q, e, p) refl
      | no d ↦ rw (later passes m k e p (omega arith)) refl
    ]

found : (passes : ℕ → Bool) (m k : ℕ) → lowest passes m ≡ None → true ≡ passes m → m < k → Some m ≡ lowest passes k
found passes m k e p h = sym (later passes m k e (sym p) h)

-- ---- none at all
pub none_below : (passes : ℕ → Bool) (m : ℕ) → lowest passes m ≡ None → NoneBelow passes m
none_below passes m e = rw e at (says passes m)

pub of_none : (passes : ℕ → Bool) (m : ℕ) → NoneBelow passes m → lowest passes m ≡ None
of_none passes zero n = refl
of_none passes (suc m) n =
    let low : lowest passes m ≡ None = of_none passes m (λ k h p. n k (omega arith) p) in
    let h : passes m ≡ true → ⊥ = n m (omega arith) in
    let f : (b : Bool) → passes m ≡ b → cond b (Some m) None ≡ None = λ b. elim b as (λ v. passes m ≡ v → cond v (Some m) None ≡ None) [ true ↦ λ p. absurd (h p) | false ↦ λ p. refl ] in
    rw low (f (passes m) refl)

-- ---- the first that a search meets
pub first_is : (passes : ℕ → Bool) (m : ℕ) (r : Option ℕ) → MatchOption r ((k : ℕ) → 0 ≤ k → k < m → passes k ≡ false) (λ i. (0 ≤ i) × (i < m) × (passes i ≡ true) × ((k : ℕ) → 0 ≤ k → k < i → passes k ≡ false))
    → r ≡ lowest passes m
first_is passes m None n = sym (of_none passes m (λ k h p. let e : ◌≡◌ {A = Bool} true false = sym p ∙ n k (omega arith) h in let y : ◌≡◌ {A = ℕ} 0 1 = cc in omega arith))
first_is passes m (Some i) n =
    found passes i m (of_none passes i (λ k h p. let e : ◌≡◌ {A = Bool} true false = sym p ∙ n.3 k (omega arith) h in let y : ◌≡◌ {A = ℕ} 0 1 = cc in omega arith)) (sym n.2) n.1
