-- Numbers below three, and lists of two and of three.
use Rattle.std.proofs.Common.{◌≡◌, ℕ, zero, suc, ◌<◌, List, [], ◌∷◌, length, arith}

pub below_two : (P : ℕ → Type 0) → P 0 → P 1 → (k : ℕ) → k < 2 → P k
below_two P a b zero h = a
below_two P a b (suc zero) h = b
below_two P a b (suc (suc k)) h = absurd (omega arith)

pub below_three : (P : ℕ → Type 0) → P 0 → P 1 → P 2 → (k : ℕ) → k < 3 → P k
below_three P a b c zero h = a
below_three P a b c (suc zero) h = b
below_three P a b c (suc (suc zero)) h = c
below_three P a b c (suc (suc (suc k))) h = absurd (omega arith)

pub of_two : (P : List ℕ → Type 0) → ((x y : ℕ) → P (x ∷ y ∷ [])) → (p : List ℕ) → length p ≡ 2 → P p
of_two P f [] e = absurd (omega arith)
of_two P f (x ∷ []) e = absurd (omega arith)
of_two P f (x ∷ y ∷ []) e = f x y
of_two P f (x ∷ y ∷ z ∷ zs) e = absurd (omega arith)

pub of_three : (P : List ℕ → Type 0) → ((x y z : ℕ) → P (x ∷ y ∷ z ∷ [])) → (p : List ℕ) → length p ≡ 3 → P p
of_three P f [] e = absurd (omega arith)
of_three P f (x ∷ []) e = absurd (omega arith)
of_three P f (x ∷ y ∷ []) e = absurd (omega arith)
of_three P f (x ∷ y ∷ z ∷ []) e = f x y z
of_three P f (x ∷ y ∷ z ∷ w ∷ ws) e = absurd (omega arith)

pub same_two : (x y a b : ℕ) → x ≡ a → y ≡ b → ◌≡◌ {A = List ℕ} (x ∷ y ∷ []) (a ∷ b ∷ [])
same_two x y a b d e = cc

pub same_three : (x y z a b c : ℕ) → x ≡ a → y ≡ b → z ≡ c → ◌≡◌ {A = List ℕ} (x ∷ y ∷ z ∷ []) (a ∷ b ∷ c ∷ [])
same_three x y z a b c d e f = cc
