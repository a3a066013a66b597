-- Sums in an ordered group: regrouping, multiples, sums over stations, and their exchange with sums over legs.
use Rattle.std.proofs.Common.{◌≡◌, ℕ, zero, suc, ◌+◌, ◌<◌, ◌≤◌, cond, eqb, List, [], ◌∷◌, sym, refl, ap, ◌∙◌, subst, suc-add, zero-add, arith}
use native.Mathlib.Decide.{dec_lt}
use Rattle.std.specs.List.{AllByRecursion}
use Rattle.std.proofs.lemmas.Bool.{eq-eqb, ne_eqb}
use Rattle.theory.specs.Groups.{OrderedGroup, undo}
use Rattle.theory.specs.Arcs.{gather, times, sum_to, along}

module _ {A : Type 0} (G : OrderedGroup A) where
  infixl 60 ◌⊕◌
  infix 50 ◌≼◌
  abbrev ◌⊕◌ : A → A → A
  a ⊕ b = G.add a b

  abbrev ◌≼◌ : A → A → Type 0
  a ≼ b = G.le a b

  -- ---- regrouping
  pub left_comm : (a b c : A) → a ⊕ (b ⊕ c) ≡ b ⊕ (a ⊕ c)
  left_comm a b c = sym (G.assoc a b c) ∙ ap (λ t. t ⊕ c) (G.comm a b) ∙ G.assoc b a c

  pub four : (a b c d : A) → (a ⊕ b) ⊕ (c ⊕ d) ≡ (a ⊕ c) ⊕ (b ⊕ d)
  four a b c d = G.assoc a b (c ⊕ d) ∙ ap (λ t. a ⊕ t) (left_comm b c d) ∙ sym (G.assoc a c (b ⊕ d))

  pub unit_right : (a : A) → a ⊕ G.zero ≡ a
  unit_right a = G.comm _ _ ∙ G.unit a

  pub inverse_right : (a : A) → a ⊕ G.neg a ≡ G.zero
  inverse_right a = G.comm _ _ ∙ G.inverse a

  -- what is taken off and then added
  pub restored : (a b : A) → (a ⊕ G.neg b) ⊕ b ≡ a
  restored a b = rw (G.assoc a (G.neg b) b, G.inverse b) (unit_right a)

  pub cancel_eq : (a b c : A) → c ⊕ a ≡ c ⊕ b → a ≡ b
  cancel_eq a b c e = sym (undo G c a) ∙ ap (λ t. G.neg c ⊕ t) e ∙ undo G c b

  -- ---- the order, with each side regrouped
  pub regrouped : {a b c d : A} → a ≼ b → c ≡ a → d ≡ b → c ≼ d
  regrouped h e k = rw (e, k) h

  pub shift_right : (a b c : A) → a ≼ b → a ⊕ c ≼ b ⊕ c
  shift_right a b c h = rw (G.comm a c, G.comm b c) (G.shift a b c h)

  pub both : (a b c d : A) → a ≼ b → c ≼ d → a ⊕ c ≼ b ⊕ d
  both a b c d h k = G.le_trans _ _ _ (shift_right a b c h) (G.shift c d b k)

  -- ---- multiples
  pub times_suc : (n : ℕ) (p : A) → times G (suc n) p ≡ p ⊕ times G n p
  unfolding times
  times_suc n p = refl

  pub times_add : (m n : ℕ) (p : A) → times G (m + n) p ≡ times G m p ⊕ times G n p
  unfolding times
  times_add zero n p = rw zero-add (sym (G.unit _))
  times_add (suc m) n p = rw suc-add (ap (λ t. p ⊕ t) (times_add m n p) ∙ sym (G.assoc _ _ _))

  pub times_sum : (n : ℕ) (p a b : A) → p ⊕ a ≡ b → times G n p ⊕ times G n a ≡ times G n b
  unfolding times
  times_sum zero p a b e = G.unit _
  times_sum (suc n) p a b e = four _ _ _ _ ∙ ap (λ z. z ⊕ (times G n p ⊕ times G n a)) e ∙ ap (λ z. b ⊕ z) (times_sum n p a b e)

  -- ---- sums over stations
  pub sum_add : (n : ℕ) (f g : ℕ → A) → sum_to G n (λ v. f v ⊕ g v) ≡ sum_to G n f ⊕ sum_to G n g
  unfolding sum_to
  sum_add zero f g = sym (G.unit _)
  sum_add (suc n) f g = ap (λ z. (f n ⊕ g n) ⊕ z) (sum_add n f g) ∙ four _ _ _ _

  pub sum_same : (n : ℕ) (f g : ℕ → A) → ((v : ℕ) → v < n → f v ≡ g v) → sum_to G n f ≡ sum_to G n g
  unfolding sum_to
  sum_same zero f g h = refl
  sum_same (suc n) f g h = ap (λ z. z ⊕ sum_to G n f) (h n (omega arith)) ∙ ap (λ z. g n ⊕ z) (sum_same n f g (λ v l. h v (omega arith)))

  sum_zero : (n : ℕ) → sum_to G n (λ v. G.zero) ≡ G.zero
  unfolding sum_to
  sum_zero zero = refl
  sum_zero (suc n) = G.unit _ ∙ sum_zero n

  -- what stands at one station only
  abbrev at_one : ℕ → ℕ → (ℕ → A) → ℕ → A
  at_one u x π v = times G (cond (eqb u v) x 0) (π v)

  at_other : (u x : ℕ) (π : ℕ → A) (v : ℕ) → (u ≡ v → ⊥) → at_one u x π v ≡ G.zero
  unfolding times
  at_other u x π v h = rw (ne_eqb u v h)

  at_it : (u x : ℕ) (π : ℕ → A) → at_one u x π u ≡ times G x (π u)
  at_it u x π = rw (eq-eqb u u refl)

  sum_beyond : (n u x : ℕ) (π : ℕ → A) → n ≤ u → sum_to G n (at_one u x π) ≡ G.zero
  unfolding sum_to
  sum_beyond zero u x π h = refl
  sum_beyond (suc n) u x π h = ap (λ z. z ⊕ sum_to G n (at_one u x π)) (at_other u x π n (omega arith)) ∙ G.unit _ ∙ sum_beyond n u x π (omega arith)

  sum_at_last : (u x : ℕ) (π : ℕ → A) → sum_to G (suc u) (at_one u x π) ≡ times G x (π u)
  unfolding sum_to
  sum_at_last u x π = ap (λ z. z ⊕ sum_to G u (at_one u x π)) (at_it u x π) ∙ ap (λ z. times G x (π u) ⊕ z) (sum_beyond u u x π (omega arith)) ∙ unit_right _

  sum_at_one : (n u x : ℕ) (π : ℕ → A) → u < n → sum_to G n (at_one u x π) ≡ times G x (π u)
  unfolding sum_to
  sum_at_one zero u x π h = absurd (omega arith)
  sum_at_one (suc n) u x π h =
      elim (dec_lt u n) [
        | yes l ↦ ap (λ z. z ⊕ sum_to G n (at_one u x π)) (at_other u x π n (omega arith)) ∙ G.unit _ ∙ sum_at_one n u x π l
        | no g ↦ let e : u ≡ n = omega arith in subst (λ m. sum_to G (suc m) (at_one u x π) ≡ times G x (π u)) e (sum_at_last u x π)
      ]

  -- ---- the exchange
  pub exchange : {L : Type 0} (at : L → ℕ) (n : ℕ) (π : ℕ → A) (ls : List L) (xs : List ℕ) → AllByRecursion (λ l. at l < n) ls → sum_to G n (λ v. times G (gather at v ls xs) (π v)) ≡ along G (λ l. π (at l)) ls xs
  unfolding along times
  exchange at n π [] xs h = sum_zero n
  exchange at n π (l ∷ ls) [] h = sum_zero n
  exchange at n π (l ∷ ls) (x ∷ xs) h = simp (times_add, sum_add, sum_at_one n (at l) x π h.0, exchange at n π ls xs h.1)
