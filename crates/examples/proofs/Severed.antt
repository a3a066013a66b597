-- The cuts where no bike can go on from station 1: of the lists of different stations only two have more to spare than
-- can leave them.
use Rattle.std.proofs.Common.{◌≡◌, ℕ, ◌<◌, ◌⊎◌, ◌↔◌, List, [], ◌∷◌, refl, subst, inl, inr, arith}
use Rattle.std.proofs.lemmas.Int.{ints}
use Rattle.std.specs.Int.Signed.{lt_z_yes}
use Rattle.plans.specs.Cuts.{Cut}
use Rattle.examples.specs.Networks.{T_shut}
use Rattle.examples.proofs.Places.{below_three}

abbrev Two : List ℕ → Type 0
Two vs = (vs ≡ 0 ∷ 1 ∷ []) ⊎ (vs ≡ 1 ∷ 0 ∷ [])

-- two different numbers below three
pairs : (P : ℕ → ℕ → Type 0) → P 0 1 → P 0 2 → P 1 0 → P 1 2 → P 2 0 → P 2 1 → (a b : ℕ) → a < 3 → b < 3 → (a ≡ b → ⊥) → P a b
pairs P p01 p02 p10 p12 p20 p21 a b h k =
    below_three (λ x. (y : ℕ) → y < 3 → (x ≡ y → ⊥) → P x y)
    (below_three (λ y. (0 ≡ y → ⊥) → P 0 y) (λ n. absurd (n refl)) (λ n. p01) (λ n. p02))
    (below_three (λ y. (1 ≡ y → ⊥) → P 1 y) (λ n. p10) (λ n. absurd (n refl)) (λ n. p12))
    (below_three (λ y. (2 ≡ y → ⊥) → P 2 y) (λ n. p20) (λ n. p21) (λ n. absurd (n refl)))
    a h b k

abbrev Third : ℕ → ℕ → Type 0
Third a b = (c : ℕ) → c < 3 → (a ≡ c → ⊥) → (b ≡ c → ⊥) → Cut T_shut (a ∷ b ∷ c ∷ []) → ⊥

third : (a b : ℕ) → a < 3 → b < 3 → (a ≡ b → ⊥) → Third a b
third =
    pairs Third
    (λ c h n m. let e : 2 ≡ c = omega arith in subst (λ x. Cut T_shut (0 ∷ 1 ∷ x ∷ []) → ⊥) e (λ k. omega (arith, ints, k.over)))
    (λ c h n m. let e : 1 ≡ c = omega arith in subst (λ x. Cut T_shut (0 ∷ 2 ∷ x ∷ []) → ⊥) e (λ k. omega (arith, ints, k.over)))
    (λ c h n m. let e : 2 ≡ c = omega arith in subst (λ x. Cut T_shut (1 ∷ 0 ∷ x ∷ []) → ⊥) e (λ k. omega (arith, ints, k.over)))
    (λ c h n m. let e : 0 ≡ c = omega arith in subst (λ x. Cut T_shut (1 ∷ 2 ∷ x ∷ []) → ⊥) e (λ k. omega (arith, ints, k.over)))
    (λ c h n m. let e : 1 ≡ c = omega arith in subst (λ x. Cut T_shut (2 ∷ 0 ∷ x ∷ []) → ⊥) e (λ k. omega (arith, ints, k.over)))
    (λ c h n m. let e : 0 ≡ c = omega arith in subst (λ x. Cut T_shut (2 ∷ 1 ∷ x ∷ []) → ⊥) e (λ k. omega (arith, ints, k.over)))

pub cut_is : (vs : List ℕ) → Cut T_shut vs → Two vs
cut_is [] k = absurd (omega (arith, ints, k.over))
cut_is (a ∷ []) k =
    absurd (below_three (λ x. Cut T_shut (x ∷ []) → ⊥) (λ r. omega (arith, ints, r.over)) (λ r. omega (arith, ints, r.over)) (λ r. omega (arith, ints, r.over)) a k.below.0 k)
cut_is (a ∷ b ∷ []) k =
    pairs (λ x y. Cut T_shut (x ∷ y ∷ []) → Two (x ∷ y ∷ []))
    (λ r. inl refl) (λ r. absurd (omega (arith, ints, r.over))) (λ r. inr refl) (λ r. absurd (omega (arith, ints, r.over))) (λ r. absurd (omega (arith, ints, r.over))) (λ r. absurd (omega (arith, ints, r.over)))
    a b k.below.0 k.below.1.0 k.different.0.0 k
cut_is (a ∷ b ∷ c ∷ []) k =
    absurd (third a b k.below.0 k.below.1.0 k.different.0.0 c k.below.1.1.0 k.different.0.1.0 k.different.1.0.0 k)
cut_is (a ∷ b ∷ c ∷ d ∷ ds) k =
    absurd (crowded a b c d k.below.0 k.below.1.0 k.below.1.1.0 k.below.1.1.1.0 k.different.0.0 k.different.0.1.0 k.different.0.1.1.0 k.different.1.0.0 k.different.1.0.1.0 k.different.1.1.0.0)
  where
    crowded : (a b c d : ℕ) → a < 3 → b < 3 → c < 3 → d < 3 → (a ≡ b → ⊥) → (a ≡ c → ⊥) → (a ≡ d → ⊥) → (b ≡ c → ⊥) → (b ≡ d → ⊥) → (c ≡ d → ⊥) → ⊥
    crowded a b c d ha hb hc hd ab ac ad bc bd cd = omega arith

pub is_cut : (vs : List ℕ) → Two vs → Cut T_shut vs
is_cut vs (inl e) = rw e (record { different = ((λ h. omega arith, tt), (tt, tt)); below = (omega arith, (omega arith, tt)); over = lt_z_yes tt })
is_cut vs (inr e) = rw e (record { different = ((λ h. omega arith, tt), (tt, tt)); below = (omega arith, (omega arith, tt)); over = lt_z_yes tt })

pub cuts : (vs : List ℕ) → Cut T_shut vs ↔ Two vs
cuts vs = (cut_is vs, is_cut vs)
