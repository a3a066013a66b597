-- Ordered groups: what costs are added and compared in.
--   OrderedGroup   a zero, a sum, a negative and a total order, with their laws
--   whole          the integers
--   lex            pairs by the first part, and by the second where the first parts are equal
--   paired         the pairs of two ordered groups under that order
--   undo           what was added is taken off again
--   cancel         the order is kept by what both sides lose
-- The other definitions are steps towards the laws of these.
use Rattle.std.specs.Prelude.{◌≡◌, ◌⊎◌, ℤ, pos, ◌+ℤ◌, neg_ℤ, ◌≤ℤ◌}
use Rattle.std.proofs.Common.{inl, inr, sym, ap, ◌∙◌, subst}
use Rattle.std.proofs.Math.IntN.{+ℤ_assoc, +ℤ_comm, +ℤ_idl, +ℤ_invl}
use Rattle.std.specs.Int.Signed.{≤ℤ_refl}
use Rattle.theory.specs.Integers.{whole_le_trans, whole_le_antisym, whole_total, whole_decide, whole_shift}

-- the sum is commutative and associative, zero leaves a member as it is, a member and its negative sum to zero;
-- the order is total, can be decided, and is kept by what is added to both sides
pub record OrderedGroup (A : Type 0) : Type 1 where
  pub zero : A
  pub add : A → A → A
  pub neg : A → A
  pub le : A → A → Type 0
  pub assoc : (a b c : A) → add (add a b) c ≡ add a (add b c)
  pub comm : (a b : A) → add a b ≡ add b a
  pub unit : (a : A) → add zero a ≡ a
  pub inverse : (a : A) → add (neg a) a ≡ zero
  pub le_refl : (a : A) → le a a
  pub le_trans : (a b c : A) → le a b → le b c → le a c
  pub le_antisym : (a b : A) → le a b → le b a → a ≡ b
  pub le_total : (a b : A) → le a b ⊎ le b a
  pub le_decide : (a b : A) → le a b ⊎ (le a b → ⊥)
  pub shift : (a b c : A) → le a b → le (add c a) (add c b)

-- the integers
abbrev pub whole : OrderedGroup ℤ
whole =
    record {
      zero = pos 0;
      add = ◌+ℤ◌;
      neg = neg_ℤ;
      le = ◌≤ℤ◌;
      assoc = +ℤ_assoc;
      comm = +ℤ_comm;
      unit = +ℤ_idl;
      inverse = +ℤ_invl;
      le_refl = ≤ℤ_refl;
      le_trans = whole_le_trans;
      le_antisym = whole_le_antisym;
      le_total = whole_total;
      le_decide = whole_decide;
      shift = whole_shift;
    }

-- what was added is taken off again
pub undo : {A : Type 0} (G : OrderedGroup A) (a b : A) → G.add (G.neg a) (G.add a b) ≡ b
undo G a b = sym (G.assoc (G.neg a) a b) ∙ ap (λ t. G.add t b) (G.inverse a) ∙ G.unit b

-- the order is kept by what both sides lose
pub cancel : {A : Type 0} (G : OrderedGroup A) (a b c : A) → G.le (G.add c a) (G.add c b) → G.le a b
cancel G a b c h = subst (λ t. G.le t b) (undo G c a) (subst (λ t. G.le (G.add (G.neg c) (G.add c a)) t) (undo G c b) (G.shift _ _ (G.neg c) h))

-- pairs with equal parts are equal
pub two : {A B : Type 0} {p q : A × B} → p.0 ≡ q.0 → p.1 ≡ q.1 → p ≡ q
two e f = λ i. (e i, f i)

-- the first parts are in order, and where they are in order the other way round too, the second parts are
abbrev pub lex : {A B : Type 0} → (A → A → Type 0) → (B → B → Type 0) → A × B → A × B → Type 0
lex R S p q = R p.0 q.0 × (R q.0 p.0 → S p.1 q.1)

module _ {A B : Type 0} (G : OrderedGroup A) (H : OrderedGroup B) where
  -- any two pairs are in order one way round
  pub pair_total : (p q : A × B) → lex G.le H.le p q ⊎ lex G.le H.le q p
  pair_total p q =
      elim (G.le_decide p.0 q.0) [
        | inl h ↦ elim (G.le_decide q.0 p.0) [
          | inl k ↦ elim (H.le_total p.1 q.1) [ inl i ↦ inl (h, λ _. i) | inr i ↦ inr (k, λ _. i) ]
          | inr k ↦ inl (h, λ l. absurd (k l))
        ]
        | inr h ↦ elim (G.le_total p.0 q.0) [ inl k ↦ absurd (h k) | inr k ↦ inr (k, λ l. absurd (h l)) ]
      ]

  -- whether two pairs are in order
  pub pair_decide : (p q : A × B) → lex G.le H.le p q ⊎ (lex G.le H.le p q → ⊥)
  pair_decide p q =
      elim (G.le_decide p.0 q.0) [
        | inl h ↦ elim (G.le_decide q.0 p.0) [
          | inl k ↦ elim (H.le_decide p.1 q.1) [ inl i ↦ inl (h, λ _. i) | inr i ↦ inr (λ l. i (l.1 k)) ]
          | inr k ↦ inl (h, λ l. absurd (k l))
        ]
        | inr h ↦ inr (λ l. h l.0)
      ]

-- sums and negatives part by part
abbrev pub paired : {A B : Type 0} → OrderedGroup A → OrderedGroup B → OrderedGroup (A × B)
paired G H =
    record {
      zero = (G.zero, H.zero);
      add = λ p q. (G.add p.0 q.0, H.add p.1 q.1);
      neg = λ p. (G.neg p.0, H.neg p.1);
      le = lex G.le H.le;
      assoc = λ a b c. two (G.assoc _ _ _) (H.assoc _ _ _);
      comm = λ a b. two (G.comm _ _) (H.comm _ _);
      unit = λ a. two (G.unit _) (H.unit _);
      inverse = λ a. two (G.inverse _) (H.inverse _);
      le_refl = λ a. (G.le_refl _, λ _. H.le_refl _);
      le_trans = λ a b c h k. (G.le_trans _ _ _ h.0 k.0, λ l. H.le_trans _ _ _ (h.1 (G.le_trans _ _ _ k.0 l)) (k.1 (G.le_trans _ _ _ l h.0)));
      le_antisym = λ a b h k. two (G.le_antisym _ _ h.0 k.0) (H.le_antisym _ _ (h.1 k.0) (k.1 h.0));
      le_total = pair_total G H;
      le_decide = pair_decide G H;
      shift = λ a b c h. (G.shift _ _ _ h.0, λ l. H.shift _ _ _ (h.1 (cancel G _ _ _ l)));
    }
