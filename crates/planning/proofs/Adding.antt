-- Sums over the legs.
use Rattle.std.proofs.Common.{◌≡◌, ℕ, zero, suc, ◌+◌, ◌^◌, ◌<◌, ◌≤◌, List, map, sum, refl, sym, ap, ◌∙◌, add-one, arith}
use denote.Param.Members.{Mut}
use Rattle.std.specs.Fn.{Called}
use Rattle.std.specs.Iterator.{Drains}
use Rattle.std.specs.Iterator.Adapters.{map_callee, map_source, map_steps}
use Rattle.std.specs.Iterator.Runs.{EachRunFrom}
use Rattle.std.specs.List.{fold, range_with_len}
use Rattle.std.specs.declared.iter.Map.{Map}
use Rattle.std.specs.declared.ops.Range.{Range}
use Rattle.std.proofs.iter.Yields.{nat_range_steps}
use Rattle.std.proofs.lemmas.List.FromFn.{length-range_with_len, sum_by-map-range_with_len_more}
use Rattle.std.proofs.lemmas.Iterator.{YieldsList-from_range, YieldsList-from_map}
use Rattle.std.proofs.lemmas.Iterator.Adapters.{at_most_from_yields_List, fits_from_length}
use Rattle.std.proofs.lemmas.Iterator.Consumers.{sum_from_yields_List}
use Rattle.plans.specs.Plans.{sum_below}

-- the sum of a list that a function makes of the numbers below n
listed : (f : ℕ → ℕ) (n : ℕ) → sum (map f (range_with_len 0 n)) ≡ sum_below n f
listed f zero = refl
listed f (suc n) =
    let e = sum_by-map-range_with_len_more (λ (x : ℕ). x) f 0 n n (omega arith) in
    ap (λ k. sum (map f (range_with_len 0 k))) (sym (add-one n)) ∙ e ∙ ap (λ s. s + f n) (listed f n)

-- the answers of a closure at the numbers below n, of which there are no more than legs of a network
module _ {F : Type 0} {s : Map (Range ℕ) F} (g : Mut F (ℕ × Unit {0}) ℕ) (f : F) (n : ℕ) where
  -- their sum fits
  pub sums_fit : map_source s ≡ record { start = 0; end = n } → map_callee s ≡ f → n ≤ 3000 → ((x r : ℕ) (q : F) → Called g f (x, tt) r q → (q ≡ f) × (r < 2 ^ 48))
      → EachRunFrom (map_steps nat_range_steps g) s (λ p. fold (λ a x. a + x) 0 p.items < 2 ^ 64)
  sums_fit at e few k =
      let long = length-range_with_len 0 n in
      fits_from_length g f 3000 (2 ^ 64) (at_most_from_yields_List (YieldsList-from_range 0 n n at (omega arith)) (omega arith)) e (omega arith)
      (λ x r q c. let a = k x r q c in (a.0, omega arith))

  -- and is the sum of what the closure computes
  pub summed : (read : ℕ → ℕ) (r : ℕ) → ((xs : List ℕ) × (Unit {0} → Drains (map_steps nat_range_steps g) s xs) × (r ≡ fold (λ a x. a + x) 0 xs)) → map_source s ≡ record { start = 0; end = n } → map_callee s ≡ f
      → ((x r : ℕ) (q : F) → Called g f (x, tt) r q → (q ≡ f) × (r ≡ read x)) → r ≡ sum_below n read
  summed read r ran at e k = sum_from_yields_List s r ran (YieldsList-from_map g read (YieldsList-from_range 0 n n at (omega arith)) e k) ∙ listed read n
