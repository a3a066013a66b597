-- The residual steps of a plan, listed.
use Rattle.std.proofs.Common.{◌≡◌, ℕ, zero, suc, ◌<◌, ◌≤◌, Bool, true, false, cond, ◌&&◌, ltb, ◌⊎◌, List, [], ◌∷◌, length, sym, refl, subst, inl, inr, arith}
use native.Mathlib.Decide.{ℕ_discrete}
use Rattle.std.proofs.lemmas.Bool.{ltb-true, lt-ltb, and_parts, and_from}
use Rattle.network.specs.Nets.{Net}
use Rattle.theory.specs.Walks.{Edge, Among}
use Rattle.plans.specs.Plans.{stations, leg_at, amount, in_force}
use Rattle.plans.specs.declared.direction.Direction.{Direction}
use Rattle.plans.specs.declared.direction.Direction.TheVariants.{Forth, Back}
use Rattle.plans.specs.Residuals.{Joined, Step, forward, backward}

-- an edge that is there if a test holds
abbrev guarded : {A : Type 0} → Bool → Edge A → List (Edge A) → List (Edge A)
guarded t e es = cond t (e ∷ es) es

abbrev Matches : {A : Type 0} → Edge A → ℕ → ℕ → A → Type 0
Matches e u v c = (e.from ≡ u) × (e.to ≡ v) × (e.cost ≡ c)

guarded_only : {A : Type 0} (t : Bool) (e : Edge A) (es : List (Edge A)) (u v : ℕ) (c : A) → Among (guarded t e es) u v c → ((t ≡ true) × Matches e u v c) ⊎ Among es u v c
guarded_only true e es u v c (inl h) = inl (refl, h)
guarded_only true e es u v c (inr h) = inr h
guarded_only false e es u v c h = inr h

guarded_there : {A : Type 0} (t : Bool) (e : Edge A) (es : List (Edge A)) (u v : ℕ) (c : A) → t ≡ true → Matches e u v c → Among (guarded t e es) u v c
guarded_there t e es u v c h m = rw h (inl m)

guarded_rest : {A : Type 0} (t : Bool) (e : Edge A) (es : List (Edge A)) (u v : ℕ) (c : A) → Among es u v c → Among (guarded t e es) u v c
guarded_rest true e es u v c h = inr h
guarded_rest false e es u v c h = h

module _ {A : Type 0} (net : Net) (plan : List ℕ) (cost : Direction → ℕ → A) where
  abbrev tested : ℕ → Bool → Bool
  tested k t = ltb (leg_at net k).start (stations net) && (ltb (leg_at net k).end (stations net) && t)

  abbrev forward_edge : ℕ → Edge A
  forward_edge k = record { from = (leg_at net k).start; to = (leg_at net k).end; cost = cost Forth k }

  abbrev backward_edge : ℕ → Edge A
  backward_edge k = record { from = (leg_at net k).end; to = (leg_at net k).start; cost = cost Back k }

  abbrev onward : ℕ → Bool
  onward k = tested k (ltb (amount plan k) (in_force (leg_at net k)))

  abbrev homeward : ℕ → Bool
  homeward k = tested k (ltb 0 (amount plan k))

  -- those of the legs below k
  abbrev pub edges : ℕ → List (Edge A)
  edges zero = []
  edges (suc k) = guarded (onward k) (forward_edge k) (guarded (homeward k) (backward_edge k) (edges k))

  passed : (k : ℕ) (t : Bool) → k < length net.legs → tested k t ≡ true → Joined net k × (t ≡ true)
  passed k t h e =
      let p = and_parts _ _ e in
      let q = and_parts _ _ p.1 in
      (record { there = h; start_below = ltb-true _ _ p.0; end_below = ltb-true _ _ q.0 }, q.1)

  passes : (k : ℕ) (t : Bool) → Joined net k → t ≡ true → tested k t ≡ true
  passes k t j e = and_from _ _ (lt-ltb _ _ j.start_below) (and_from _ _ (lt-ltb _ _ j.end_below) e)

  pub is_step : (k : ℕ) → k ≤ length net.legs → (u v : ℕ) (c : A) → Among (edges k) u v c → Step net plan cost u v c
  is_step zero h u v c s = absurd s
  is_step (suc k) h u v c s =
      elim (guarded_only (onward k) (forward_edge k) (guarded (homeward k) (backward_edge k) (edges k)) u v c s) [
        | inl p ↦ let q = passed k (ltb (amount plan k) (in_force (leg_at net k))) (omega arith) p.0 in forward k q.0 p.1.0 p.1.1 (ltb-true _ _ q.1) (sym p.1.2)
        | inr r ↦ elim (guarded_only (homeward k) (backward_edge k) (edges k) u v c r) [
          | inl p ↦ let q = passed k (ltb 0 (amount plan k)) (omega arith) p.0 in backward k q.0 p.1.0 p.1.1 (ltb-true _ _ q.1) (sym p.1.2)
          | inr i ↦ is_step k (omega arith) u v c i
        ]
      ]

  -- the list of the legs below k + 1 holds that of the legs below k
  later : (k u v : ℕ) (c : A) → Among (edges k) u v c → Among (edges (suc k)) u v c
  later k u v c s = guarded_rest (onward k) (forward_edge k) (guarded (homeward k) (backward_edge k) (edges k)) u v c (guarded_rest (homeward k) (backward_edge k) (edges k) u v c s)

  -- a step of the leg i stands in the list once the list has come past i
  forward_listed : (k i : ℕ) (u v : ℕ) (c : A) → i < k → onward i ≡ true → Matches (forward_edge i) u v c → Among (edges k) u v c
  forward_listed zero i u v c h t m = absurd (omega arith)
  forward_listed (suc k) i u v c h t m =
      elim (ℕ_discrete i k) [
        | yes e ↦ guarded_there (onward k) (forward_edge k) (guarded (homeward k) (backward_edge k) (edges k)) u v c (subst (λ j. onward j ≡ true) e t) (subst (λ j. Matches (forward_edge j) u v c) e m)
        | no n ↦ later k u v c (forward_listed k i u v c (omega arith) t m)
      ]

  backward_listed : (k i : ℕ) (u v : ℕ) (c : A) → i < k → homeward i ≡ true → Matches (backward_edge i) u v c → Among (edges k) u v c
  backward_listed zero i u v c h t m = absurd (omega arith)
  backward_listed (suc k) i u v c h t m =
      elim (ℕ_discrete i k) [
        | yes e ↦ guarded_rest (onward k) (forward_edge k) (guarded (homeward k) (backward_edge k) (edges k)) u v c (guarded_there (homeward k) (backward_edge k) (edges k) u v c (subst (λ j. homeward j ≡ true) e t) (subst (λ j. Matches (backward_edge j) u v c) e m))
        | no n ↦ later k u v c (backward_listed k i u v c (omega arith) t m)
      ]

  pub listed : (u v : ℕ) (c : A) → Step net plan cost u v c → Among (edges (length net.legs)) u v c
  listed u v c (forward k j p q h e) = forward_listed (length net.legs) k u v c j.there (passes k _ j (lt-ltb _ _ h)) (p, q, sym e)
  listed u v c (backward k j p q h e) = backward_listed (length net.legs) k u v c j.there (passes k _ j (lt-ltb _ _ h)) (p, q, sym e)

-- a step starts and ends at stations
pub from_below : {A : Type 0} (net : Net) (plan : List ℕ) (cost : Direction → ℕ → A) (u v : ℕ) (c : A) → Step net plan cost u v c → u < stations net
from_below net plan cost u v c (forward k j p q h e) = rw p at j.start_below
from_below net plan cost u v c (backward k j p q h e) = rw p at j.end_below

pub to_below : {A : Type 0} (net : Net) (plan : List ℕ) (cost : Direction → ℕ → A) (u v : ℕ) (c : A) → Step net plan cost u v c → v < stations net
to_below net plan cost u v c (forward k j p q h e) = rw q at j.end_below
to_below net plan cost u v c (backward k j p q h e) = rw q at j.start_below
