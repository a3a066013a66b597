-- The prices of the three stations while all bikes go over station 1.
use Rattle.std.proofs.Common.{◌≡◌, ℕ, zero, suc, ◌<◌, List, [], ◌∷◌, ℤ, pos, negsuc, ◌+ℤ◌, ◌≤ℤ◌, refl, arith}
use Rattle.std.specs.Int.Signed.{le_z_yes}
use Rattle.network.specs.Nets.{Net}
use Rattle.theory.specs.Groups.{whole}
use Rattle.theory.specs.Walks.{start, step, Label}
use Rattle.theory.proofs.Walking
use Rattle.plans.specs.Plans.{leg_at, amount, in_force}
use Rattle.plans.specs.declared.direction.Direction.TheVariants.{Forth, Back}
use Rattle.plans.specs.Residuals.{forward, backward, step_cents, CentsStep}
use Rattle.plans.specs.Prices.{Station, CentsWalk, Price}
use Rattle.plans.proofs.Pricing.{unique}
use Rattle.examples.specs.Networks.{T}
use Rattle.examples.specs.Examples.{OnlyPrice}
use Rattle.examples.proofs.Places.{below_three}

abbrev plan : List ℕ
plan = 4 ∷ 4 ∷ 0 ∷ []

abbrev label : ℕ → ℤ
label zero = negsuc 29
label (suc zero) = negsuc 9
label (suc (suc v)) = pos 0

low : (v : ℕ) → label v ≤ℤ pos 0
low zero = le_z_yes tt
low (suc zero) = le_z_yes tt
low (suc (suc v)) = le_z_yes tt

-- no step undercuts a label
along : (u v a b : ℕ) (c d : ℤ) → a ≡ u → b ≡ v → c ≡ d → label b ≤ℤ (label a +ℤ d) → label v ≤ℤ (label u +ℤ c)
along u v a b c d p q e h = rw (← p, ← q, e) h

abbrev Up : ℕ → Type 0
Up k = amount plan k < in_force (leg_at T k) → label (leg_at T k).end ≤ℤ (label (leg_at T k).start +ℤ step_cents T Forth k)

abbrev Down : ℕ → Type 0
Down k = 0 < amount plan k → label (leg_at T k).start ≤ℤ (label (leg_at T k).end +ℤ step_cents T Back k)

up : (k : ℕ) → k < 3 → Up k
up = below_three Up (λ h. absurd (omega arith)) (λ h. absurd (omega arith)) (λ h. le_z_yes tt)

down : (k : ℕ) → k < 3 → Down k
down = below_three Down (λ h. le_z_yes tt) (λ h. le_z_yes tt) (λ h. absurd (omega arith))

not_undercut : (u v : ℕ) (c : ℤ) → CentsStep T plan u v c → label v ≤ℤ (label u +ℤ c)
not_undercut u v c (forward k j p q h e) = along u v (leg_at T k).start (leg_at T k).end c (step_cents T Forth k) p q e (up k j.there h)
not_undercut u v c (backward k j p q h e) = along u v (leg_at T k).end (leg_at T k).start c (step_cents T Back k) p q e (down k j.there h)

labels : Label whole (Station T) (CentsStep T plan) (λ v. Unit {0}) label
labels = record { starts = λ v f. (tt, low v); held = λ u v c r s. (tt, not_undercut u v c s) }

-- ---- walks that total the labels: back along leg 1 from station 2, and on along leg 0
at_end : CentsWalk T plan 2 [] (pos 0)
at_end = start (omega arith)

on_the_way : CentsWalk T plan 1 (2 ∷ []) (negsuc 9)
on_the_way = step at_end (backward 1 (record { there = omega arith; start_below = omega arith; end_below = omega arith }) refl refl (omega arith) refl)

at_start : CentsWalk T plan 0 (1 ∷ 2 ∷ []) (negsuc 29)
at_start = step on_the_way (backward 0 (record { there = omega arith; start_below = omega arith; end_below = omega arith }) refl refl (omega arith) refl)

only_price : (net : Net) (p : List ℕ) (v : ℕ) (z : ℤ) → Price net p v z → OnlyPrice net p v z
only_price net p v z h s = (λ k. unique net p v s z k h, λ e. rw e h)

price : (v : ℕ) (us : List ℕ) → CentsWalk T plan v us (label v) → OnlyPrice T plan v (label v)
price v us w = only_price T plan v (label v) (Walking.price whole (Station T) (CentsStep T plan) (λ v. Unit {0}) label labels v us w)

pub price_at_start : OnlyPrice T plan 0 (negsuc 29)
price_at_start = price 0 (1 ∷ 2 ∷ []) at_start

pub price_on_the_way : OnlyPrice T plan 1 (negsuc 9)
price_on_the_way = price 1 (2 ∷ []) on_the_way

pub price_at_end : OnlyPrice T plan 2 (pos 0)
price_at_end = price 2 [] at_end
