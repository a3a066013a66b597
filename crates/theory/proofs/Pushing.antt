-- Bikes sent along residual steps of different legs: what it does to the plan, to its cost and to the balances.
use Rattle.std.proofs.Common.{◌≡◌, ℕ, zero, suc, ◌+◌, ◌<◌, ◌≤◌, Bool, true, false, cond, eqb, List, [], ◌∷◌, length, get_or, set, sym, refl, ap, ◌∙◌, arith, length-set, get_or-set_other, get_or-set_same}
use native.Mathlib.Decide.{ℕ_discrete}
use Rattle.theory.specs.Groups.{OrderedGroup}
use Rattle.theory.specs.Arcs.{Arc, gather, fees}
use Rattle.theory.specs.Walks.{Absent}
use Rattle.theory.specs.Trails.{Trail, none, more, less, Pushed}
use Rattle.theory.proofs.Adding

-- what a station gathers after one amount is another
pub gather_set : {L : Type 0} (at : L → ℕ) (v : ℕ) (d : L) (ls : List L) (xs : List ℕ) (k y : ℕ) → length xs ≡ length ls → k < length ls → gather at v ls (set xs k y) + cond (eqb (at (get_or ls k d)) v) (get_or xs k 0) 0 ≡ gather at v ls xs + cond (eqb (at (get_or ls k d)) v) y 0
gather_set at v d [] xs k y e h = absurd (omega arith)
gather_set at v d (l ∷ ls) [] k y e h = absurd (omega arith)
gather_set at v d (l ∷ ls) (x ∷ xs) zero y e h = omega arith
gather_set at v d (l ∷ ls) (x ∷ xs) (suc k) y e h = omega (arith, gather_set at v d ls xs k y (omega arith) (omega arith))

cond_sum : (t : Bool) (x y : ℕ) → cond t (x + y) 0 ≡ cond t x 0 + cond t y 0
cond_sum true x y = refl
cond_sum false x y = refl

module _ {A : Type 0} (G : OrderedGroup A) where
  turned : (a b c : A) → G.add (G.add a b) c ≡ G.add (G.add c b) a
  turned a b c = simp (G.assoc, G.comm, Adding.left_comm G)

  solved : (f p g q : A) → G.add f p ≡ G.add g q → f ≡ G.add g (G.add q (G.neg p))
  solved f p g q e = sym (G.assoc f p (G.neg p) ∙ rw (Adding.inverse_right G p) (Adding.unit_right G f)) ∙ ap (λ t. G.add t (G.neg p)) e ∙ G.assoc g q (G.neg p)

  -- what a plan costs after one amount is another
  pub fees_set : (d : Arc A) (ls : List (Arc A)) (xs : List ℕ) (k y : ℕ) → length xs ≡ length ls → k < length ls → G.add (fees G ls (set xs k y)) ((get_or ls k d).fee (get_or xs k 0)) ≡ G.add (fees G ls xs) ((get_or ls k d).fee y)
  unfolding fees
  fees_set d [] xs k y e h = absurd (omega arith)
  fees_set d (l ∷ ls) [] k y e h = absurd (omega arith)
  fees_set d (l ∷ ls) (x ∷ xs) zero y e h = turned _ _ _
  fees_set d (l ∷ ls) (x ∷ xs) (suc k) y e h = G.assoc _ _ _ ∙ ap (G.add (l.fee x)) (fees_set d ls xs k y (omega arith) (omega arith)) ∙ sym (G.assoc _ _ _)

module _ {A : Type 0} (G : OrderedGroup A) (d : Arc A) (ls : List (Arc A)) (xs : List ℕ) where
  others_set : (ks ys : List ℕ) (k y : ℕ) → ((i : ℕ) → Absent i ks → get_or ys i 0 ≡ get_or xs i 0) → (i : ℕ) → Absent i (k ∷ ks) → get_or (set ys k y) i 0 ≡ get_or xs i 0
  others_set ks ys k y o i a = get_or-set_other ys k i y 0 a.0 ∙ o i a.1

  fits_set : (ys : List ℕ) (k y : ℕ) → length ys ≡ length ls → y ≤ (get_or ls k d).room → ((i : ℕ) → i < length ls → get_or ys i 0 ≤ (get_or ls i d).room) → (i : ℕ) → i < length ls → get_or (set ys k y) i 0 ≤ (get_or ls i d).room
  fits_set ys k y e h f i l =
      elim (ℕ_discrete i k) [
        | yes q ↦ rw q (rw (get_or-set_same ys k y 0 (omega arith)) h)
        | no n ↦ rw (get_or-set_other ys k i y 0 n) (f i l)
      ]

  -- the leg k, which the steps before did not touch, takes the amount y
  paid_set : (ys : List ℕ) (c : A) (k y : ℕ) → length ys ≡ length ls → k < length ls → get_or ys k 0 ≡ get_or xs k 0 → fees G ls ys ≡ G.add (fees G ls xs) c → fees G ls (set ys k y) ≡ G.add (fees G ls xs) (G.add c (G.add ((get_or ls k d).fee y) (G.neg ((get_or ls k d).fee (get_or xs k 0)))))
  paid_set ys c k y e h o p = solved G _ _ _ _ (rw o at (fees_set G d ls ys k y e h)) ∙ rw p (G.assoc _ _ _)

  pub push : length xs ≡ length ls → ((k : ℕ) → k < length ls → get_or xs k 0 ≤ (get_or ls k d).room) → {b o v : ℕ} {ks : List ℕ} {c : A} {ys : List ℕ} → Trail G d ls xs b o v ks c ys → Pushed G d ls xs b o v ks c ys
  push e f none = record { as_long = e; others = λ k _. refl; fits = f; paid = sym (Adding.unit_right G _); moved = λ w. omega arith }
  push e f {b = b} (more {v = v} {ks = ks} {c = c} {ys = ys} k t h a s r) =
      let q = push e f t in
      let x = get_or xs k 0 in
      record {
        as_long = length-set ys k (x + b) ∙ q.as_long;
        others = others_set ks ys k (x + b) q.others;
        fits = fits_set ys k (x + b) q.as_long r q.fits;
        paid = paid_set ys c k (x + b) q.as_long h (q.others k a) q.paid;
        moved = λ w. omega (arith, q.moved w, ap (λ z. cond (eqb z w) b 0) s, rw (q.others k a) at (gather_set (λ l. l.from) w d ls ys k (x + b) q.as_long h), rw (q.others k a) at (gather_set (λ l. l.to) w d ls ys k (x + b) q.as_long h), cond_sum (eqb (get_or ls k d).from w) x b, cond_sum (eqb (get_or ls k d).to w) x b);
      }
  push e f {b = b} (less {v = v} {ks = ks} {c = c} {ys = ys} k j t h a s r) =
      let q = push e f t in
      record {
        as_long = length-set ys k j ∙ q.as_long;
        others = others_set ks ys k j q.others;
        fits = fits_set ys k j q.as_long (omega (arith, f k h)) q.fits;
        paid = rw (← r) (paid_set ys c k j q.as_long h (q.others k a) q.paid);
        moved = λ w. omega (arith, q.moved w, ap (λ z. cond (eqb z w) b 0) s, rw (q.others k a, r) at (gather_set (λ l. l.from) w d ls ys k j q.as_long h), rw (q.others k a, r) at (gather_set (λ l. l.to) w d ls ys k j q.as_long h), cond_sum (eqb (get_or ls k d).from w) j b, cond_sum (eqb (get_or ls k d).to w) j b);
      }
