-- Sums over the numbers below m, and over lists of stations.
use Rattle.std.proofs.Common.{◌≡◌, ℕ, zero, suc, ◌+◌, ◌<◌, ◌≤◌, Bool, true, false, cond, ◌||◌, eqb, List, [], ◌∷◌, ◌++◌, ℤ, pos, ◌+ℤ◌, ◌-ℤ◌, ◌≤ℤ◌, ◌<ℤ◌, sym, refl, ap, ◌∙◌, arith}
use native.Mathlib.Decide.{ℕ_discrete}
use Rattle.std.proofs.lemmas.Int.{ints}
use Rattle.std.specs.List.{AllByRecursion}
use Rattle.std.proofs.lemmas.Bool.{eq-eqb, ne_eqb, or_right}
use Rattle.theory.specs.Arcs.{owed}
use Rattle.theory.specs.Walks.{Absent, Distinct}
use Rattle.plans.specs.Plans.{sum_below}
use Rattle.plans.specs.Cuts.{among, sum_over}

-- the first number in front
pub sum_front : (m : ℕ) (f : ℕ → ℕ) → sum_below (suc m) f ≡ f 0 + sum_below m (λ k. f (suc k))
sum_front zero f = omega arith
sum_front (suc m) f = let h = sum_front m f in omega arith

-- only the numbers below m count
pub sum_same : (m : ℕ) (f g : ℕ → ℕ) → ((k : ℕ) → k < m → f k ≡ g k) → sum_below m f ≡ sum_below m g
sum_same zero f g h = refl
sum_same (suc m) f g h = omega (arith, sum_same m f g (λ k l. h k (omega arith)), h m (omega arith))

-- ---- sums over the stations of a set that a list names
none_owed : (n : ℕ) (b : ℕ → ℤ) → owed n (λ v. false) b ≡ pos 0
none_owed zero b = refl
none_owed (suc n) b = omega (arith, ints, none_owed n b)

pub owed_same : (n : ℕ) (S : ℕ → Bool) (b c : ℕ → ℤ) → ((v : ℕ) → v < n → b v ≡ c v) → owed n S b ≡ owed n S c
owed_same zero S b c h = refl
owed_same (suc n) S b c h = ap (λ z. cond (S n) z (pos 0) +ℤ owed n S b) (h n (omega arith)) ∙ ap (λ z. cond (S n) (c n) (pos 0) +ℤ z) (owed_same n S b c (λ v l. h v (omega arith)))

-- a station more at the end, which is another
pub absent_push : (x v : ℕ) (xs : List ℕ) → Absent x xs → (x ≡ v → ⊥) → Absent x (xs ++ v ∷ [])
absent_push x v [] a q = (q, tt)
absent_push x v (y ∷ xs) a q = (a.0, absent_push x v xs a.1 q)

pub absent_among : (v : ℕ) (vs : List ℕ) → Absent v vs → among v vs ≡ false
absent_among v [] h = refl
absent_among v (u ∷ us) h = rw (ne_eqb v u h.0) (absent_among v us h.1)

-- one station more in the set, which the sum has not come to
owed_before : (n u : ℕ) (vs : List ℕ) (b : ℕ → ℤ) → n ≤ u → owed n (λ v. eqb v u || among v vs) b ≡ owed n (λ v. among v vs) b
owed_before zero u vs b h = refl
owed_before (suc n) u vs b h =
    ap (λ t. cond (t || among n vs) (b n) (pos 0) +ℤ owed n (λ v. eqb v u || among v vs) b) (ne_eqb n u (omega arith))
    ∙ ap (λ z. cond (among n vs) (b n) (pos 0) +ℤ z) (owed_before n u vs b (omega arith))

at_new : (t s : Bool) (x y z : ℤ) → t ≡ true → s ≡ false → y ≡ z → cond (t || s) x (pos 0) +ℤ y ≡ x +ℤ (cond s x (pos 0) +ℤ z)
at_new true true x y z p q e = cc
at_new true false x y z p q e = omega (arith, ints)
at_new false s x y z p q e = cc

at_old : (t s : Bool) (x y z w : ℤ) → t ≡ false → y ≡ w +ℤ z → cond (t || s) x (pos 0) +ℤ y ≡ w +ℤ (cond s x (pos 0) +ℤ z)
at_old true s x y z w p e = cc
at_old false true x y z w p e = omega (arith, ints)
at_old false false x y z w p e = omega (arith, ints)

owed_more : (n u : ℕ) (vs : List ℕ) (b : ℕ → ℤ) → among u vs ≡ false → u < n → owed n (λ v. eqb v u || among v vs) b ≡ b u +ℤ owed n (λ v. among v vs) b
owed_more zero u vs b a h = absurd (omega arith)
owed_more (suc n) u vs b a h =
    elim (ℕ_discrete n u) [
      | yes e ↦ at_new (eqb n u) (among n vs) (b n) _ _ (eq-eqb n u e) (ap (λ i. among i vs) e ∙ a) (owed_before n u vs b (omega arith)) ∙ ap (λ i. b i +ℤ owed (suc n) (λ v. among v vs) b) e
      | no d ↦ at_old (eqb n u) (among n vs) (b n) _ _ (b u) (ne_eqb n u d) (owed_more n u vs b a (omega arith))
    ]

-- a list of different stations below n
pub owed_listed : (n : ℕ) (vs : List ℕ) (b : ℕ → ℤ) → Distinct vs → AllByRecursion (λ v. v < n) vs → owed n (λ v. among v vs) b ≡ sum_over b vs
owed_listed n [] b d h = none_owed n b
owed_listed n (u ∷ us) b d h = owed_more n u us b (absent_among u us d.0) h.0 ∙ ap (λ z. b u +ℤ z) (owed_listed n us b d.1 h.1)

pub sum_over_parts : (vs : List ℕ) (b c : ℕ → ℤ) → sum_over b vs ≡ sum_over (λ v. b v -ℤ c v) vs +ℤ sum_over c vs
sum_over_parts [] b c = refl
sum_over_parts (v ∷ vs) b c = omega (arith, ints, sum_over_parts vs b c)

-- ---- the first and the last of a list
pub among_here : (v : ℕ) (vs : List ℕ) → among v (v ∷ vs) ≡ true
among_here v vs = rw (eq-eqb v v refl)

pub among_last : (v : ℕ) (vs : List ℕ) → among v (vs ++ (v ∷ [])) ≡ true
among_last v [] = among_here v []
among_last v (u ∷ us) = or_right (eqb v u) _ (among_last v us)

-- ---- sums of what is not below zero

sum_over_none : (vs : List ℕ) (b : ℕ → ℤ) → ((v : ℕ) → among v vs ≡ true → pos 0 ≤ℤ b v) → pos 0 ≤ℤ sum_over b vs
sum_over_none [] b h = omega (arith, ints)
sum_over_none (v ∷ vs) b h = omega (arith, ints, h v (among_here v vs), sum_over_none vs b (λ w k. h w (or_right (eqb w v) (among w vs) k)))

-- none is below zero and one is above it
pub sum_over_some : (vs : List ℕ) (b : ℕ → ℤ) → ((v : ℕ) → among v vs ≡ true → pos 0 ≤ℤ b v) → (w : ℕ) → among w vs ≡ true → pos 0 <ℤ b w → pos 0 <ℤ sum_over b vs
sum_over_some [] b h w k p = cc
sum_over_some (v ∷ vs) b h w k p =
    let rest : (u : ℕ) → among u vs ≡ true → pos 0 ≤ℤ b u = λ u i. h u (or_right (eqb u v) (among u vs) i) in
    elim (ℕ_discrete w v) [
      | yes e ↦ let q : pos 0 <ℤ b v = rw e at p in omega (arith, ints, sum_over_none vs b rest)
      | no d ↦ let i : among w vs ≡ true = ap (λ t. t || among w vs) (sym (ne_eqb w v d)) ∙ k in omega (arith, ints, h v (among_here v vs), sum_over_some vs b rest w i p)
    ]
