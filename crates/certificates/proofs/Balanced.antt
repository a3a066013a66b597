-- Where nothing is left over a plan obeys; what is left over sums, over all stations, to what the balances sum to.
use Rattle.std.proofs.Common.{◌≡◌, ℕ, zero, suc, ◌<◌, ◌≤◌, true, List, [], ◌∷◌, length, get_or, take, ℤ, pos, ◌+ℤ◌, ◌-ℤ◌, ◌≤ℤ◌, fold, sym, refl, ap, ◌∙◌, add-one, arith}
use native.Mathlib.Decide.{ℕ_discrete}
use Rattle.std.proofs.lemmas.Int.{ints}
use Rattle.std.proofs.lemmas.List.{take_all}
use Rattle.std.proofs.lemmas.List.Sums.{fold_more}
use Rattle.std.proofs.lemmas.Bool.{true≢false}
use Rattle.network.specs.Nets.{Net}
use Rattle.theory.specs.Arcs.{Arc, outward, owed, AllFull}
use Rattle.plans.specs.Plans.{stations, balance_at, Fits, Obeys, EndsBelow}
use Rattle.plans.specs.Cuts.{left_over}
use Rattle.plans.proofs.Cutting.{sent, all_sent}
use Rattle.plans.proofs.Arcing.{arcs_of}
use Rattle.certificates.specs.Totals.{total_below}

pub obeys : (net : Net) (plan : List ℕ) → Fits net plan → ((v : ℕ) → v < stations net → left_over net plan v ≡ pos 0) → Obeys net plan
obeys net plan f h = record { fits = f; balanced = λ v l. omega (arith, ints, h v l) }

-- ---- all stations as a set that no leg leaves
all_owed : (n : ℕ) (b : ℕ → ℤ) → owed n (λ v. true) b ≡ total_below n b
all_owed zero b = refl
all_owed (suc n) b = omega (arith, ints, all_owed n b)

none_outward : {A : Type 0} (ls : List (Arc A)) → outward (λ v. true) ls ≡ 0
none_outward [] = refl
none_outward (l ∷ ls) = omega (arith, none_outward ls)

never_out : {A : Type 0} (ls : List (Arc A)) (xs : List ℕ) → AllFull (λ v. true) ls xs
never_out [] xs = tt
never_out (l ∷ ls) [] = tt
never_out (l ∷ ls) (x ∷ xs) = (record { more = λ p q. absurd (true≢false q); less = λ p q. absurd (true≢false q) }, never_out ls xs)

none_sent : (net : Net) (plan : List ℕ) → EndsBelow net → Fits net plan → total_below (stations net) (sent net plan) ≡ pos 0
none_sent net plan e f = sym (all_owed (stations net) (sent net plan)) ∙ all_sent net plan (λ v. true) e f (never_out (arcs_of net []) plan) ∙ ap pos (none_outward (arcs_of net []))

-- ---- sums over the numbers below n
total_parts : (n : ℕ) (b c : ℕ → ℤ) → total_below n (λ v. b v -ℤ c v) ≡ total_below n b -ℤ total_below n c
total_parts zero b c = refl
total_parts (suc n) b c = omega (arith, ints, total_parts n b c)

-- none is above zero: the sum is at most zero, and at most each one
total_none : (n : ℕ) (f : ℕ → ℤ) → ((v : ℕ) → v < n → f v ≤ℤ pos 0) → total_below n f ≤ℤ pos 0
total_none zero f h = omega (arith, ints)
total_none (suc n) f h = omega (arith, ints, h n (omega arith), total_none n f (λ v l. h v (omega arith)))

total_each : (n : ℕ) (f : ℕ → ℤ) → ((v : ℕ) → v < n → f v ≤ℤ pos 0) → (w : ℕ) → w < n → total_below n f ≤ℤ f w
total_each zero f h w l = absurd (omega arith)
total_each (suc n) f h w l =
    elim (ℕ_discrete w n) [
      | yes e ↦ omega (arith, ints, total_none n f (λ v i. h v (omega arith)), ap f e)
      | no d ↦ omega (arith, ints, h n (omega arith), total_each n f (λ v i. h v (omega arith)) w (omega arith))
    ]

pub total : (net : Net) (plan : List ℕ) → EndsBelow net → Fits net plan → total_below (stations net) (left_over net plan) ≡ total_below (stations net) (balance_at net)
total net plan e f = omega (arith, ints, total_parts (stations net) (balance_at net) (sent net plan), none_sent net plan e f)

pub none_over : (net : Net) (plan : List ℕ) → EndsBelow net → Fits net plan → total_below (stations net) (balance_at net) ≡ pos 0 → ((v : ℕ) → v < stations net → left_over net plan v ≤ℤ pos 0) → Obeys net plan
none_over net plan e f z h = obeys net plan f (λ v l. omega (arith, ints, h v l, total_each (stations net) (left_over net plan) h v l, total net plan e f))

-- the sum of the first ones of a list
total_front : (xs : List ℤ) (i : ℕ) → i ≤ length xs → total_below i (λ v. get_or xs v (pos 0)) ≡ fold ◌+ℤ◌ (pos 0) (take i xs)
total_front xs zero h = refl
total_front xs (suc i) h = ap (λ z. z +ℤ get_or xs i (pos 0)) (total_front xs i (omega arith)) ∙ sym (rw add-one at (fold_more ◌+ℤ◌ (pos 0) xs i (pos 0) (omega arith)))

pub total_listed : (net : Net) → total_below (stations net) (balance_at net) ≡ fold ◌+ℤ◌ (pos 0) net.balances
total_listed net = total_front net.balances (stations net) (omega arith) ∙ ap (fold ◌+ℤ◌ (pos 0)) (take_all (stations net) net.balances (omega arith))
