-- The laws of the order of the integers, by which they are an ordered group.
--   whole_le_trans     the order is transitive
--   whole_le_antisym   integers that are in order both ways round are equal
--   whole_total        any two integers are in order one way round
--   whole_decide       whether two integers are in order
--   whole_shift        the order is kept by what is added to both sides
use Rattle.std.specs.Prelude.{◌≡◌, ◌⊎◌, ℤ, ◌+ℤ◌, ◌≤ℤ◌}
use Rattle.std.specs.Int.Signed.{clash_ℤ}
use Rattle.std.proofs.Common.{inl, inr, arith}
use Rattle.std.proofs.lemmas.Int.{ints, by_lt_z}

pub whole_le_trans : (a b c : ℤ) → a ≤ℤ b → b ≤ℤ c → a ≤ℤ c
whole_le_trans a b c h k = omega (arith, ints)

pub whole_le_antisym : (a b : ℤ) → a ≤ℤ b → b ≤ℤ a → a ≡ b
whole_le_antisym a b h k = omega (arith, ints)

pub whole_total : (a b : ℤ) → (a ≤ℤ b) ⊎ (b ≤ℤ a)
whole_total a b = by_lt_z a b (λ h. inl (omega (arith, ints))) inr

pub whole_decide : (a b : ℤ) → (a ≤ℤ b) ⊎ (a ≤ℤ b → ⊥)
whole_decide a b = by_lt_z b a (λ h. inr (λ k. clash_ℤ h k)) inl

pub whole_shift : (a b c : ℤ) → a ≤ℤ b → (c +ℤ a) ≤ℤ (c +ℤ b)
whole_shift a b c h = omega (arith, ints)
