-- Labels on the stations that a search has reached, and the old potential raised elsewhere, are a certificate.
-- A certificate excludes round trips below zero.
use Rattle.std.proofs.Common.{◌≡◌, ℕ, zero, suc, ◌+◌, ◌<◌, Bool, true, false, cond, List, ℤ, pos, negsuc, ◌-ℤ◌, ◌<ℤ◌, refl, ap, arith}
use native.Mathlib.Decide.{ℕ_discrete}
use Rattle.std.proofs.lemmas.Int.{ints}
use Rattle.std.proofs.lemmas.Bool.{both_ways}
use Rattle.network.specs.Nets.{Net}
use Rattle.theory.proofs.Walking
use Rattle.plans.specs.Plans.{stations}
use Rattle.plans.specs.Residuals.{step_both, BothStep, both_group, Certifies}
use Rattle.plans.specs.Prices.{BothRoundTrip}
use Rattle.plans.proofs.Listed.{to_below}

-- ---- a number above all of finitely many integers
above : (z : ℤ) → (m : ℕ) × (z <ℤ pos m)
above (pos a) = (suc a, omega (arith, ints))
above (negsuc a) = (0, omega (arith, ints))

above_all : (n : ℕ) (f : ℕ → ℤ) → (m : ℕ) × ((v : ℕ) → v < n → f v <ℤ pos m)
above_all zero f = (0, λ v h. absurd (omega arith))
above_all (suc n) f =
    let r = above_all n f in
    let s = above (f n) in (
      r.0 + s.0,
      λ v h. elim (ℕ_discrete v n) [
        | yes e ↦ omega (arith, ints, s.1, ap f e)
        | no d ↦ omega (arith, ints, r.1 v (omega arith))
      ],
    )

-- ---- the labels where reached, else the potential raised by m cents
abbrev pub raised : (ℕ → Bool) → (ℕ → ℤ × ℤ) → (ℕ → ℤ × ℤ) → ℕ → ℕ → ℤ × ℤ
raised r d π m v = cond (r v) (d v) (both_group.add (π v) (pos m, pos 0))

-- one step from u, reached or not as s tells, to v, reached or not as t tells
one_step : (s t : Bool) (du dv pu pv c : ℤ × ℤ) (m : ℕ) → (s ≡ true → (t ≡ true) × both_group.le dv (both_group.add du c)) → both_group.le pv (both_group.add pu c) → (dv.0 -ℤ pv.0) <ℤ pos m
    → both_group.le (cond t dv (both_group.add pv (pos m, pos 0))) (both_group.add (cond s du (both_group.add pu (pos m, pos 0))) c)
one_step true true du dv pu pv c m h p b = (h refl).1
one_step true false du dv pu pv c m h p b = absurd (both_ways false refl (h refl).0)
one_step false true du dv pu pv c m h p b = (omega (arith, ints, p.0), λ k. absurd (omega (arith, ints, p.0)))
one_step false false du dv pu pv c m h p b = (omega (arith, ints, p.0), λ k. omega (arith, ints, p.1 (omega (arith, ints))))

module _ (net : Net) (standing plan : List ℕ) (π : ℕ → ℤ × ℤ) (r : ℕ → Bool) (d : ℕ → ℤ × ℤ) where
  pub extended : Certifies net standing plan π → ((u v : ℕ) (c : ℤ × ℤ) → BothStep net standing plan u v c → r u ≡ true → (r v ≡ true) × both_group.le (d v) (both_group.add (d u) c))
      → (π' : ℕ → ℤ × ℤ) × Certifies net standing plan π' × ((v : ℕ) → r v ≡ true → π' v ≡ d v)
  extended p h =
      let a = above_all (stations net) (λ v. (d v).0 -ℤ (π v).0) in
      (raised r d π a.0, λ u v c s. one_step (r u) (r v) (d u) (d v) (π u) (π v) c a.0 (h u v c s) (p u v c s) (a.1 v (to_below net plan (step_both net standing plan) u v c s)), λ v e. rw e)

pub no_round_trip : (net : Net) (standing plan : List ℕ) (π : ℕ → ℤ × ℤ) → Certifies net standing plan π → BothRoundTrip net standing plan → ⊥
no_round_trip net standing plan π c trip = Walking.no_trip_at both_group (BothStep net standing plan) (λ _. Unit {0}) π (λ u v z _ s. (tt, c u v z s)) trip tt
