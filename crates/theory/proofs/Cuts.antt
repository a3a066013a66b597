-- A set of stations that must send out more than its legs outwards can carry, and a set that no residual step leaves.
-- Both are the exchange of sums at the potential that is 1 in the set and 0 outside it.
use Rattle.std.proofs.Common.{◌≡◌, ℕ, zero, suc, ◌<◌, ◌≤◌, Bool, true, false, cond, not, ◌&&◌, List, [], ◌∷◌, ℤ, pos, ◌+ℤ◌, ◌-ℤ◌, ◌≤ℤ◌, ◌<ℤ◌, refl, arith}
use Rattle.std.proofs.lemmas.Int.{ints}
use Rattle.std.specs.List.{AllByRecursion}
use Rattle.theory.specs.Groups.{whole}
use Rattle.theory.specs.Arcs.{Arc, gather, Fits, Feasible, times, sum_to, along, outward, owed, AllFull}
use Rattle.theory.proofs.Adding

abbrev one : (ℕ → Bool) → ℕ → ℤ
one S v = cond (S v) (pos 1) (pos 0)

times_one : (n : ℕ) → times whole n (pos 1) ≡ pos n
unfolding times
times_one zero = refl
times_one (suc n) = omega (arith, ints, times_one n)

times_nothing : (n : ℕ) → times whole n (pos 0) ≡ pos 0
unfolding times
times_nothing zero = refl
times_nothing (suc n) = omega (arith, ints, times_nothing n)

-- ---- no more goes out than the legs outwards can carry
at_leg : (p q : Bool) (x m : ℕ) → x ≤ m → times whole x (cond p (pos 1) (pos 0)) ≤ℤ (times whole x (cond q (pos 1) (pos 0)) +ℤ pos (cond (p && not q) m 0))
at_leg true true x m h = omega (arith, ints)
at_leg true false x m h = omega (arith, ints, times_one x, times_nothing x)
at_leg false true x m h = omega (arith, ints, times_one x, times_nothing x)
at_leg false false x m h = omega (arith, ints)

over : {A : Type 0} (S : ℕ → Bool) (ls : List (Arc A)) (xs : List ℕ) → Fits ls xs → along whole (λ l. one S l.from) ls xs ≤ℤ (along whole (λ l. one S l.to) ls xs +ℤ pos (outward S ls))
unfolding along
over S [] [] h = omega (arith, ints)
over S [] (x ∷ xs) h = absurd h
over S (l ∷ ls) [] h = absurd h
over S (l ∷ ls) (x ∷ xs) h = omega (arith, ints, at_leg (S l.from) (S l.to) x l.room h.0, over S ls xs h.1)

at_station : (t : Bool) (b : ℤ) (o i : ℕ) → pos o -ℤ pos i ≡ b → cond t b (pos 0) +ℤ times whole i (cond t (pos 1) (pos 0)) ≡ times whole o (cond t (pos 1) (pos 0))
at_station true b o i e = omega (arith, ints, times_one o, times_one i)
at_station false b o i e = omega (arith, ints, times_nothing o, times_nothing i)

sums : (n : ℕ) (S : ℕ → Bool) (b : ℕ → ℤ) (o i : ℕ → ℕ) → ((v : ℕ) → v < n → pos (o v) -ℤ pos (i v) ≡ b v) → owed n S b +ℤ sum_to whole n (λ v. times whole (i v) (one S v)) ≡ sum_to whole n (λ v. times whole (o v) (one S v))
unfolding sum_to
sums zero S b o i h = refl
sums (suc n) S b o i h = omega (arith, ints, at_station (S n) (b n) (o n) (i n) (h n (omega arith)), sums n S b o i (λ v l. h v (omega arith)))

pub cut : {A : Type 0} (n : ℕ) (b : ℕ → ℤ) (S : ℕ → Bool) (ls : List (Arc A)) (xs : List ℕ) → AllByRecursion (λ l. l.from < n) ls → AllByRecursion (λ l. l.to < n) ls → Feasible n b ls xs → pos (outward S ls) <ℤ owed n S b → ⊥
cut n b S ls xs f t h k =
    omega (arith, ints, over S ls xs h.fits, sums n S b (λ v. gather (λ l. l.from) v ls xs) (λ v. gather (λ l. l.to) v ls xs) h.balanced, Adding.exchange whole (λ l. l.from) n (one S) ls xs f, Adding.exchange whole (λ l. l.to) n (one S) ls xs t)

-- ---- a set that no residual step leaves
full_leg : (p q : Bool) (x m : ℕ) → x ≤ m → (p ≡ true → q ≡ false → m ≤ x) → (q ≡ true → p ≡ false → x ≡ 0) → times whole x (cond p (pos 1) (pos 0)) ≡ times whole x (cond q (pos 1) (pos 0)) +ℤ pos (cond (p && not q) m 0)
full_leg true true x m h k l = omega (arith, ints)
full_leg true false x m h k l = omega (arith, ints, times_one x, times_nothing x, k refl refl)
full_leg false true x m h k l = omega (arith, ints, times_one x, times_nothing x, l refl refl)
full_leg false false x m h k l = omega (arith, ints)

full : {A : Type 0} (S : ℕ → Bool) (ls : List (Arc A)) (xs : List ℕ) → Fits ls xs → AllFull S ls xs → along whole (λ l. one S l.from) ls xs ≡ along whole (λ l. one S l.to) ls xs +ℤ pos (outward S ls)
unfolding along
full S [] [] h k = omega (arith, ints)
full S [] (x ∷ xs) h k = absurd h
full S (l ∷ ls) [] h k = absurd h
full S (l ∷ ls) (x ∷ xs) h k = omega (arith, ints, full_leg (S l.from) (S l.to) x l.room h.0 k.0.more k.0.less, full S ls xs h.1 k.1)

-- what the set sends out, net, is what its legs outwards can carry
pub sends : {A : Type 0} (n : ℕ) (S : ℕ → Bool) (ls : List (Arc A)) (xs : List ℕ) → AllByRecursion (λ l. l.from < n) ls → AllByRecursion (λ l. l.to < n) ls → Fits ls xs → AllFull S ls xs → owed n S (λ v. pos (gather (λ l. l.from) v ls xs) -ℤ pos (gather (λ l. l.to) v ls xs)) ≡ pos (outward S ls)
sends n S ls xs f t h k =
    omega (arith, ints, full S ls xs h k, sums n S (λ v. pos (gather (λ l. l.from) v ls xs) -ℤ pos (gather (λ l. l.to) v ls xs)) (λ v. gather (λ l. l.from) v ls xs) (λ v. gather (λ l. l.to) v ls xs) (λ v l. refl), Adding.exchange whole (λ l. l.from) n (one S) ls xs f, Adding.exchange whole (λ l. l.to) n (one S) ls xs t)
