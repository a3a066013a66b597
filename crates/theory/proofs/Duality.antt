-- One convex leg, and weak duality: a plan that no residual step undercuts is cheapest.
use Rattle.std.proofs.Common.{◌≡◌, ℕ, zero, suc, ◌+◌, ◌-◌, ◌<◌, ◌≤◌, List, [], ◌∷◌, ℤ, sym, refl, ap, ◌∙◌, add-zero, add-suc, suc-add, arith}
use native.Mathlib.Decide.{dec_lt}
use Rattle.std.proofs.lemmas.Int.{ints}
use Rattle.std.specs.List.{AllByRecursion}
use Rattle.theory.specs.Groups.{OrderedGroup, cancel}
use Rattle.theory.specs.Arcs.{Arc, Fits, Feasible, times, sum_to, along, fees, Convex, Tight, ReducedCosts, Uncut}
use Rattle.theory.proofs.Adding

module _ {A : Type 0} (G : OrderedGroup A) where
  infixl 60 ◌⊕◌
  infix 50 ◌≼◌
  abbrev ◌⊕◌ : A → A → A
  a ⊕ b = G.add a b

  abbrev ◌≼◌ : A → A → Type 0
  a ≼ b = G.le a b

  lc : (a b c : A) → a ⊕ (b ⊕ c) ≡ b ⊕ (a ⊕ c)
  lc = Adding.left_comm G

  ass : (a b c : A) → (a ⊕ b) ⊕ c ≡ a ⊕ (b ⊕ c)
  ass = G.assoc

  swap : (a b : A) → a ⊕ b ≡ b ⊕ a
  swap = G.comm

  ruleset ac = (ass, swap, lc)

  -- ---- one leg: `f x` is the cost of the amount x, and p the potential's rise along it
  slope_up : (f : ℕ → A) (p : A) → Convex G f → (x : ℕ) → f x ⊕ p ≼ f (suc x) → (k : ℕ) → f (x + k) ⊕ p ≼ f (suc (x + k))
  unfolding Convex
  slope_up f p c x h zero = rw (add-zero x) h
  slope_up f p c x h (suc k) =
      rw (add-suc x k) (cancel G _ _ (f (x + k)) (G.le_trans _ _ _
      (Adding.regrouped G (Adding.shift_right G _ _ (f (suc (x + k))) (slope_up f p c x h k)) (simp ac) refl)
      (c (x + k))))

  climb : (f : ℕ → A) (p : A) → Convex G f → (x : ℕ) → f x ⊕ p ≼ f (suc x) → (k : ℕ) → f x ⊕ times G (x + k) p ≼ f (x + k) ⊕ times G x p
  unfolding times
  climb f p c x h zero = rw (add-zero x) (G.le_refl _)
  climb f p c x h (suc k) =
      rw (add-suc x k) (G.le_trans _ _ _
      (Adding.regrouped G (Adding.shift_right G _ _ p (climb f p c x h k)) (simp ac) refl)
      (Adding.regrouped G (Adding.shift_right G _ _ (times G x p) (slope_up f p c x h k)) (simp ac) refl))

  slope_down : (f : ℕ → A) (p : A) → Convex G f → (j k : ℕ) → f (suc (j + k)) ≼ f (j + k) ⊕ p → f (suc j) ≼ f j ⊕ p
  unfolding Convex
  slope_down f p c j zero h = rw (add-zero j) at h
  slope_down f p c j (suc k) h =
      cancel G _ _ (f (suc j)) (G.le_trans _ _ _ (c j)
      (Adding.regrouped G (G.shift _ _ (f j) (slope_down f p c (suc j) k (rw (suc-add j k, ← (add-suc j k)) h))) refl (simp ac)))

  fall : (f : ℕ → A) (p : A) → Convex G f → (j k : ℕ) → f (suc (j + k)) ≼ f (j + k) ⊕ p → f (suc (j + k)) ⊕ times G j p ≼ f j ⊕ times G (suc (j + k)) p
  fall f p c j zero h = rw (add-zero j) (Adding.regrouped G (Adding.shift_right G _ _ (times G j p) (rw (add-zero j) at h)) refl (simp (Adding.times_suc G, ac)))
  fall f p c j (suc k) h =
      let e : j + suc k ≡ suc j + k = omega arith in
      rw e (cancel G _ _ p (G.le_trans _ _ _
      (Adding.regrouped G (fall f p c (suc j) k (rw e at h)) (simp (Adding.times_suc G, ac)) refl)
      (Adding.regrouped G (Adding.shift_right G _ _ (times G (suc (suc j + k)) p) (slope_down f p c j (suc k) h)) refl (simp ac))))

  pub least : (f : ℕ → A) (p : A) (most x : ℕ) → Convex G f → Tight G f p most x → (y : ℕ) → y ≤ most → f x ⊕ times G y p ≼ f y ⊕ times G x p
  least f p most x c t y h =
      elim (dec_lt x y) [
        | yes l ↦ let e : y ≡ x + (y - x) = omega arith in rw e (climb f p c x (t.more (omega arith)) (y - x))
        | no r ↦ elim (dec_lt y x) [
          | yes l ↦ let e : x ≡ suc (y + (x - suc y)) = omega arith in rw e (fall f p c y (x - suc y) (t.less _ e))
          | no q ↦ let e : x ≡ y = omega arith in rw e (G.le_refl _)
        ]
      ]

  -- ---- the legs together: how a potential rises along a leg
  abbrev rise : (ℕ → A) → Arc A → A
  rise π l = π l.to ⊕ G.neg (π l.from)

  five : (a b c d e : A) → (a ⊕ b) ⊕ (c ⊕ (d ⊕ e)) ≡ (e ⊕ a) ⊕ ((b ⊕ c) ⊕ d)
  five a b c d e = simp ac

  one_more : (a b c : A) → (a ⊕ G.neg b) ⊕ (b ⊕ (c ⊕ G.neg a)) ≡ c
  one_more a b c = rw (five a (G.neg b) b c (G.neg a), G.inverse a, G.inverse b) (G.unit _ ∙ G.unit _)

  one_less : (a b c d : A) → (a ⊕ G.neg b) ⊕ (c ⊕ (d ⊕ G.neg a)) ≡ d ⊕ (c ⊕ G.neg b)
  one_less a b c d = rw (five a (G.neg b) c d (G.neg a), G.inverse a, G.unit) (simp ac)

  tight : (π : ℕ → A) (l : Arc A) (x : ℕ) → ReducedCosts G π l x → Tight G l.fee (rise π l) l.room x
  tight π l x c =
      record {
        more = λ h. Adding.regrouped G (G.shift _ _ (l.fee x ⊕ G.neg (π l.from)) (c.more h)) (simp ac) (sym (one_more _ _ _));
        less = λ j e. Adding.regrouped G (G.shift _ _ (l.fee (suc j) ⊕ G.neg (π l.from)) (c.less j e)) (sym (Adding.restored G _ _)) (sym (one_less _ _ _ _));
      }

  summed : (π : ℕ → A) (ls : List (Arc A)) (xs ys : List ℕ) → AllByRecursion (λ l. Convex G l.fee) ls → Fits ls xs → Fits ls ys → Uncut G π ls xs → fees G ls xs ⊕ along G (rise π) ls ys ≼ fees G ls ys ⊕ along G (rise π) ls xs
  unfolding fees along
  summed π [] [] [] v h k c = G.le_refl _
  summed π [] [] (y ∷ ys) v h k c = absurd k
  summed π [] (x ∷ xs) ys v h k c = absurd h
  summed π (l ∷ ls) [] ys v h k c = absurd h
  summed π (l ∷ ls) (x ∷ xs) [] v h k c = absurd k
  summed π (l ∷ ls) (x ∷ xs) (y ∷ ys) v h k c =
      Adding.regrouped G (Adding.both G _ _ _ _ (least l.fee (rise π l) l.room x v.0 (tight π l x c.0) y k.0) (summed π ls xs ys v.1 h.1 k.1 c.1)) (Adding.four G _ _ _ _) (Adding.four G _ _ _ _)

  rises : (π : ℕ → A) (ls : List (Arc A)) (xs : List ℕ) → along G (rise π) ls xs ⊕ along G (λ l. π l.from) ls xs ≡ along G (λ l. π l.to) ls xs
  unfolding along
  rises π [] xs = G.unit _
  rises π (l ∷ ls) [] = G.unit _
  rises π (l ∷ ls) (x ∷ xs) =
      Adding.four G _ _ _ _
      ∙ ap (λ z. z ⊕ (along G (rise π) ls xs ⊕ along G (λ l. π l.from) ls xs)) (Adding.times_sum G x (rise π l) (π l.from) (π l.to) (Adding.restored G _ _))
      ∙ ap (λ z. times G x (π l.to) ⊕ z) (rises π ls xs)

  -- ---- two plans with the same balances
  same_ends : (n : ℕ) (π : ℕ → A) (o i o' i' : ℕ → ℕ) → ((v : ℕ) → v < n → o v + i' v ≡ o' v + i v) → sum_to G n (λ v. times G (o v) (π v)) ⊕ sum_to G n (λ v. times G (i' v) (π v)) ≡ sum_to G n (λ v. times G (o' v) (π v)) ⊕ sum_to G n (λ v. times G (i v) (π v))
  same_ends n π o i o' i' h =
      sym (Adding.sum_add G n _ _)
      ∙ Adding.sum_same G n _ _ (λ v l. sym (Adding.times_add G (o v) (i' v) (π v)) ∙ ap (λ m. times G m (π v)) (h v l) ∙ Adding.times_add G (o' v) (i v) (π v))
      ∙ Adding.sum_add G n _ _

  even : (p q s t u w : A) → p ⊕ s ≡ u → q ⊕ t ≡ w → s ⊕ w ≡ t ⊕ u → q ≡ p
  even p q s t u w e f g = Adding.cancel_eq G q p (s ⊕ t) (simp ac (simp ac at (rw (← e, ← f) at g)))

  halves : (P Q : Arc A → Type 0) (ls : List (Arc A)) → AllByRecursion (λ l. P l × Q l) ls → AllByRecursion P ls × AllByRecursion Q ls
  halves P Q [] h = (tt, tt)
  halves P Q (l ∷ ls) h = ((h.0.0, (halves P Q ls h.1).0), (h.0.1, (halves P Q ls h.1).1))

  pub cheapest : (n : ℕ) (b : ℕ → ℤ) (π : ℕ → A) (ls : List (Arc A)) (xs ys : List ℕ) → AllByRecursion (λ l. (l.from < n) × (l.to < n)) ls → AllByRecursion (λ l. Convex G l.fee) ls → Feasible n b ls xs → Feasible n b ls ys → Uncut G π ls xs → fees G ls xs ≼ fees G ls ys
  cheapest n b π ls xs ys e v h k c =
      let starts = (halves (λ l. l.from < n) (λ l. l.to < n) ls e).0 in
      let ends = (halves (λ l. l.from < n) (λ l. l.to < n) ls e).1 in
      let same : along G (λ l. π l.from) ls xs ⊕ along G (λ l. π l.to) ls ys ≡ along G (λ l. π l.from) ls ys ⊕ along G (λ l. π l.to) ls xs =
      rw (← (Adding.exchange G (λ l. l.from) n π ls xs starts), ← (Adding.exchange G (λ l. l.to) n π ls xs ends), ← (Adding.exchange G (λ l. l.from) n π ls ys starts), ← (Adding.exchange G (λ l. l.to) n π ls ys ends))
      (same_ends n π _ _ _ _ (λ u l. omega (arith, ints, h.balanced u l, k.balanced u l))) in
      let r : along G (rise π) ls ys ≡ along G (rise π) ls xs = even _ _ _ _ _ _ (rises π ls xs) (rises π ls ys) same in
      cancel G _ _ (along G (rise π) ls xs) (Adding.regrouped G (summed π ls xs ys v h.fits k.fits c) (rw r (G.comm _ _)) (G.comm _ _))
