-- The sum of balances, of which there are few.
use Rattle.std.proofs.Common.{◌≡◌, ℕ, ◌+◌, ◌*◌, ◌≤◌, List, [], ◌∷◌, length, map, take, fold, ℤ, pos, ◌+ℤ◌, neg_ℤ, ◌≤ℤ◌, Option, sym, ap, ◌∙◌, subst, arith, w32, w64, SFits}
use denote.Param.Members.{Mut}
use Rattle.std.specs.Fn.{Called}
use Rattle.std.specs.Int.RustNames.{FitsSigned}
use Rattle.std.specs.Iterator.{Yields, Drains}
use Rattle.std.specs.Iterator.Adapters.{map_callee, map_source, map_steps}
use Rattle.std.specs.Iterator.Runs.{EachRunFrom, YieldsRun}
use Rattle.std.specs.declared.iter.Map.{Map}
use Rattle.std.proofs.lemmas.Int.{ints, fits_signed_from_abs}
use Rattle.std.proofs.lemmas.List.{map-id, length-take}
use Rattle.std.proofs.lemmas.List.FromFn.{length-map-range_with_len}
use Rattle.std.proofs.iter.Yields.{nat_range_steps}
use Rattle.std.specs.List.{range_with_len}
use Rattle.std.specs.declared.ops.Range.{Range}
use Rattle.std.proofs.lemmas.Iterator.Adapters.{total_from_yields_List}
use Rattle.std.proofs.lemmas.Iterator.{YieldsList, YieldsList-from_range, YieldsList-from_map}
use Rattle.std.proofs.lemmas.Iterator.Consumers.{YieldsList-so_far}

-- a closure that answers numbers of 32 bits
module _ {S A F : Type 0} (steps : S → Option A → S → Type 0) (g : Mut F (A × Unit {0}) ℤ) (f : F) (k : (x : A) (r : ℤ) (q : F) → Called g f (x, tt) r q → (q ≡ f) × SFits w32 r) where
  -- how far the sum of its answers can come
  near : (xs : List ℤ) (a : ℤ) (m : ℕ) (s t : Map S F) → map_callee s ≡ f → Yields (map_steps steps g) s xs t → neg_ℤ (pos m) ≤ℤ a → a ≤ℤ pos m
      → (neg_ℤ (pos (m + 2147483648 * length xs)) ≤ℤ fold ◌+ℤ◌ a xs) × (fold ◌+ℤ◌ a xs ≤ℤ pos (m + 2147483648 * length xs))
  near [] a m s t e y l h = (omega (arith, ints), omega (arith, ints))
  near (r ∷ xs) a m s t e y l h =
      let c = k y.1.0 r _ (subst (λ h. Called g h (y.1.0, tt) r (map_callee y.0)) e y.1.2) in
      let fits : SFits w32 r = c.1 in
      let rest = near xs (a +ℤ r) (m + 2147483648) y.0 t c.0 y.2 (omega (arith, ints)) (omega (arith, ints)) in
      (omega (arith, ints), omega (arith, ints))

-- the closure's answers at the numbers below n
module _ {F : Type 0} {s : Map (Range ℕ) F} (g : Mut F (ℕ × Unit {0}) ℤ) (f : F) (read : ℕ → ℤ) (n : ℕ) where
  road : map_source s ≡ record { start = 0; end = n } → map_callee s ≡ f → ((x : ℕ) (r : ℤ) (q : F) → Called g f (x, tt) r q → (q ≡ f) × (r ≡ read x) × SFits w32 r)
      → YieldsList (map_steps nat_range_steps g) (λ x. x) s (map read (range_with_len 0 n))
  road at e k = YieldsList-from_map g read (YieldsList-from_range 0 n n at (omega arith)) e (λ x r q c. let a = k x r q c in (a.0, a.1))

  -- what `sum` asks of them
  pub sums_fit : map_source s ≡ record { start = 0; end = n } → map_callee s ≡ f → n ≤ 240 → ((x : ℕ) (r : ℤ) (q : F) → Called g f (x, tt) r q → (q ≡ f) × (r ≡ read x) × SFits w32 r)
      → EachRunFrom (map_steps nat_range_steps g) s (λ p. FitsSigned w64 (fold ◌+ℤ◌ (pos 0) p.items))
  unfolding YieldsRun
  sums_fit at e few k = λ p _ from.
      let all : List ℤ = map read (range_with_len 0 n) in
      let run = subst (λ u. Yields (map_steps nat_range_steps g) u p.items p.gave.0.0) from p.gave.0.1 in
      let front : p.items ≡ take (length p.items) all = sym (map-id p.items) ∙ YieldsList-so_far (road at e k) p.items p.gave.0.0 run in
      let short : length p.items ≤ n = omega (arith, ap length front, length-take (length p.items) all, length-map-range_with_len read 0 n) in
      let r = near nat_range_steps g f (λ x v q c. let a = k x v q c in (a.0, a.2)) p.items (pos 0) 0 s p.gave.0.0 e run (omega (arith, ints)) (omega (arith, ints)) in
      fits_signed_from_abs w64 (fold ◌+ℤ◌ (pos 0) p.items) (omega (arith, ints))

  -- what it gives
  pub summed : (r : ℤ) → ((xs : List ℤ) × (Unit {0} → Drains (map_steps nat_range_steps g) s xs) × (r ≡ fold ◌+ℤ◌ (pos 0) xs)) → map_source s ≡ record { start = 0; end = n } → map_callee s ≡ f
      → ((x : ℕ) (r : ℤ) (q : F) → Called g f (x, tt) r q → (q ≡ f) × (r ≡ read x) × SFits w32 r) → r ≡ fold ◌+ℤ◌ (pos 0) (map read (range_with_len 0 n))
  summed r ran at e k = total_from_yields_List ◌+ℤ◌ (pos 0) r ran (road at e k)
