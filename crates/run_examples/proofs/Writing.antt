-- Slices in which the first entries were written.
use Rattle.std.proofs.Common.{◌≡◌, ℕ, zero, suc, ◌<◌, ◌≤◌, List, [], ◌∷◌, length, take, drop, ℤ, refl, ap, ◌∙◌, subst, arith, length-take}
use Rattle.network.specs.Nets.{Net}
use Rattle.plans.specs.Plans.{stations, CheapestThenNearest}
use Rattle.plans.specs.Residuals.{forward, backward, CentsStep}
use Rattle.plans.specs.Prices.{Price}
use Rattle.plans.proofs.Around.{no_cents_trip}
use Rattle.plans.proofs.Pricing.{exists, reduced}
use Rattle.plans.specs.Prices.{price_at, Prices}
use Rattle.examples.proofs.Places.{below_three}
use Rattle.tally.proofs.Written.{parts}
use Rattle.run_examples.specs.After.{Holds}

-- numbers below n that have what is asked, in the first n entries
pub record Entered (P : ℕ → ℤ → Type 0) (n : ℕ) (before : List ℤ) : Type 0 where
  pub after : List ℤ
  pub each : (v : ℕ) → v < n → P v (price_at after v)
  pub beyond : drop n after ≡ drop n before
  pub as_long : n ≤ length before → length after ≡ length before

put : (P : ℕ → ℤ → Type 0) (n : ℕ) (z : ℤ) (before rest : List ℤ) → P 0 z → ((v : ℕ) → v < n → P (suc v) (price_at rest v)) → drop n rest ≡ drop (suc n) before
    → (suc n ≤ length before → length (z ∷ rest) ≡ length before) → Entered P (suc n) before
put P n z before rest p f e l = record { after = z ∷ rest; each = at; beyond = e; as_long = l }
  where
    at : (v : ℕ) → v < suc n → P v (price_at (z ∷ rest) v)
    at zero h = p
    at (suc v) h = f v (omega arith)

pub enter : (P : ℕ → ℤ → Type 0) (n : ℕ) (before : List ℤ) → ((v : ℕ) → v < n → (z : ℤ) × P v z) → Entered P n before
enter P zero before f = record { after = before; each = λ v h. absurd (omega arith); beyond = refl; as_long = λ h. refl }
enter P (suc n) [] f =
    let a = f 0 (omega arith) in
    let r = enter (λ v. P (suc v)) n [] (λ v h. f (suc v) (omega arith)) in
    put P n a.0 [] r.after a.1 r.each (r.beyond ∙ nothing n) (λ h. absurd (omega arith))
  where
    nothing : (k : ℕ) → ◌≡◌ {A = List ℤ} (drop {A = ℤ} k []) []
    nothing zero = refl
    nothing (suc k) = refl
enter P (suc n) (y ∷ ys) f =
    let a = f 0 (omega arith) in
    let r = enter (λ v. P (suc v)) n ys (λ v h. f (suc v) (omega arith)) in
    put P n a.0 (y ∷ ys) r.after a.1 r.each r.beyond (λ h. let k : n ≤ length ys = omega arith in ap suc (r.as_long k))

-- the prices under a best plan can be written into any slice
pub prices_entered : (net : Net) (standing plan : List ℕ) (before : List ℤ) → CheapestThenNearest net standing plan → Entered (Price net plan) (stations net) before
prices_entered net standing plan before b = enter (Price net plan) (stations net) before (exists net plan (no_cents_trip net standing plan b))

ends_below : (net : Net) (plan : List ℕ) (u v : ℕ) (c : ℤ) → CentsStep net plan u v c → (u < stations net) × (v < stations net)
ends_below net plan u v c (forward k j p q h e) = (subst (λ w. w < stations net) p j.start_below, subst (λ w. w < stations net) q j.end_below)
ends_below net plan u v c (backward k j p q h e) = (subst (λ w. w < stations net) p j.end_below, subst (λ w. w < stations net) q j.start_below)

pub prices_are : (net : Net) (standing plan : List ℕ) (before : List ℤ) → CheapestThenNearest net standing plan → (e : Entered (Price net plan) (stations net) before) → Prices net plan e.after
prices_are net standing plan before b e = record {
  price = e.each;
  reduced = λ u v c s.
      let h = ends_below net plan u v c s in
      reduced net plan (no_cents_trip net standing plan b) u v c (price_at e.after u) (price_at e.after v) s (e.each u h.0) (e.each v h.1);
}

-- ---- what a slice is whose first entries are known
-- as many as were taken are there
pub taken : {X : Type 0} (k : ℕ) (vs after : List X) → k ≤ length after → take k after ≡ vs → k ≡ length vs
taken {X} k vs after h p = let a = length-take k after in let b : length (take k after) ≡ length vs = ap length p in omega arith

-- three entries, one by one and together
pub three : (a b c : ℤ) (before after : List ℤ) → price_at after 0 ≡ a → price_at after 1 ≡ b → price_at after 2 ≡ c → drop 3 after ≡ drop 3 before → Holds (a ∷ b ∷ c ∷ []) before after
three a b c before after p q r e = record {
  each = below_three (λ v. price_at after v ≡ price_at (a ∷ b ∷ c ∷ []) v) p q r;
  whole = λ h. parts 3 (a ∷ b ∷ c ∷ []) before after (front after h p q r) e refl;
}
  where
    front : (zs : List ℤ) → 3 ≤ length zs → price_at zs 0 ≡ a → price_at zs 1 ≡ b → price_at zs 2 ≡ c → take 3 zs ≡ a ∷ b ∷ c ∷ []
    front [] h p q r = absurd (omega arith)
    front (x ∷ []) h p q r = absurd (omega arith)
    front (x ∷ y ∷ []) h p q r = absurd (omega arith)
    front (x ∷ y ∷ z ∷ zs) h p q r = rw (p, q, r) refl
