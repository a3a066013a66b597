-- Bikes sent along a tight step leave the certificate as it is: the step only grows dearer, and its reverse is tight.
-- How many bikes may go along a step.
use Rattle.std.proofs.Common.{◌≡◌, ℕ, ◌+◌, ◌-◌, ◌<◌, ◌≤◌, cond, ltb, leb, List, length, set, ℤ, pos, negsuc, neg_ℤ, sym, ap, ◌∙◌, subst, inl, inr, arith}
use native.Mathlib.Decide.{ℕ_discrete}
use Rattle.std.proofs.lemmas.Int.{ints}
use Rattle.std.proofs.lemmas.List.{get_or-set_same, get_or-set_other, set-get_or}
use Rattle.std.proofs.lemmas.Bool.{cases_lt}
use Rattle.std.proofs.lemmas.Bool.Decides.{nat_tests}
use Rattle.records.specs.declared.leg.Leg.{Leg}
use Rattle.network.specs.Nets.{Net}
use Rattle.theory.proofs.Adding
use Rattle.plans.specs.Plans.{leg_at, amount, in_force, Fits}
use Rattle.plans.specs.declared.direction.Direction.TheVariants.{Forth, Back}
use Rattle.plans.specs.declared.direction.Direction.{Direction}
use Rattle.plans.specs.Residuals.{Joined, tail, head, residual, forward, backward, step_both, both_group, Certifies}
use Rattle.certificates.specs.Pushes.{shifted, Takes, SendsAlong, room, room_over}

-- what a step over a leg costs, by its charge, its standing amount and its amount
abbrev up : ℕ → ℕ → ℕ → ℤ × ℤ
up charge s x = (pos charge, cond (leb s x) (pos 1) (negsuc 0))

abbrev down : ℕ → ℕ → ℕ → ℤ × ℤ
down charge s x = (neg_ℤ (pos charge), cond (ltb s x) (negsuc 0) (pos 1))

-- ---- one leg, between the potentials p of its start and q of its end, from the amount x to the amount y; four lemmas, since
-- two over a direction would be shown for each direction apart
up_after_up : (charge s x y : ℕ) (p q : ℤ × ℤ) → x ≤ y → q ≡ both_group.add p (up charge s x) → both_group.le q (both_group.add p (up charge s y))
up_after_up charge s x y p q h e = let f = ap (λ z. z.0) e in let g = ap (λ z. z.1) e in (omega (arith, ints), λ _. grind (arith, ints, nat_tests))

down_after_up : (charge s x y : ℕ) (p q : ℤ × ℤ) → (x < s → y ≤ s) → q ≡ both_group.add p (up charge s x) → both_group.le p (both_group.add q (down charge s y))
down_after_up charge s x y p q h e = let f = ap (λ z. z.0) e in let g = ap (λ z. z.1) e in (omega (arith, ints), λ _. grind (arith, ints, nat_tests))

down_after_down : (charge s x y : ℕ) (p q : ℤ × ℤ) → y ≤ x → p ≡ both_group.add q (down charge s x) → both_group.le p (both_group.add q (down charge s y))
down_after_down charge s x y p q h e = let f = ap (λ z. z.0) e in let g = ap (λ z. z.1) e in (omega (arith, ints), λ _. grind (arith, ints, nat_tests))

up_after_down : (charge s x y : ℕ) (p q : ℤ × ℤ) → (s < x → s ≤ y) → p ≡ both_group.add q (down charge s x) → both_group.le q (both_group.add p (up charge s y))
up_after_down charge s x y p q h e = let f = ap (λ z. z.0) e in let g = ap (λ z. z.1) e in (omega (arith, ints), λ _. grind (arith, ints, nat_tests))

-- a fact of the steps from a to b, at equal ends and costs
at_ends : (π : ℕ → ℤ × ℤ) (a b u v : ℕ) (w z : ℤ × ℤ) → a ≡ u → b ≡ v → z ≡ w → both_group.le (π b) (both_group.add (π a) w) → both_group.le (π v) (both_group.add (π u) z)
at_ends π a b u v w z p q e h = Adding.regrouped both_group h (ap π (sym q)) (ap (λ o. both_group.add (π o) z) (sym p) ∙ ap (both_group.add (π a)) e)

-- ---- a plan with another amount on one leg
module _ (net : Net) (standing plan : List ℕ) (π : ℕ → ℤ × ℤ) (k y : ℕ) (c : Certifies net standing plan π) (here : k < length plan) where
  -- its two steps are not undercut, and no other step has changed
  after :
      both_group.le (π (leg_at net k).end) (both_group.add (π (leg_at net k).start) (up (leg_at net k).charge (amount standing k) y))
      → both_group.le (π (leg_at net k).start) (both_group.add (π (leg_at net k).end) (down (leg_at net k).charge (amount standing k) y))
      → Certifies net standing (set plan k y) π
  after f b u v z (forward i j p q h e) =
      elim (ℕ_discrete i k) [
        | yes d ↦ at_ends π (leg_at net k).start (leg_at net k).end u v (up (leg_at net k).charge (amount standing k) y) z (ap (λ m. (leg_at net m).start) (sym d) ∙ p) (ap (λ m. (leg_at net m).end) (sym d) ∙ q)
            (e ∙ ap (step_both net standing (set plan k y) Forth) d ∙ ap (up (leg_at net k).charge (amount standing k)) (get_or-set_same plan k y 0 here)) f
        | no n ↦ c u v z (forward i j p q (rw (get_or-set_other plan k i y 0 n) at h) (rw (get_or-set_other plan k i y 0 n) at e))
      ]
  after f b u v z (backward i j p q h e) =
      elim (ℕ_discrete i k) [
        | yes d ↦ at_ends π (leg_at net k).end (leg_at net k).start u v (down (leg_at net k).charge (amount standing k) y) z (ap (λ m. (leg_at net m).end) (sym d) ∙ p) (ap (λ m. (leg_at net m).start) (sym d) ∙ q)
            (e ∙ ap (step_both net standing (set plan k y) Back) d ∙ ap (down (leg_at net k).charge (amount standing k)) (get_or-set_same plan k y 0 here)) b
        | no n ↦ c u v z (backward i j p q (rw (get_or-set_other plan k i y 0 n) at h) (rw (get_or-set_other plan k i y 0 n) at e))
      ]

-- no bike sent
idle : (net : Net) (standing plan : List ℕ) (π : ℕ → ℤ × ℤ) (k y : ℕ) → Certifies net standing plan π → y ≡ amount plan k → Certifies net standing (set plan k y) π
idle net standing plan π k y c e = subst (λ p. Certifies net standing p π) (sym (ap (set plan k) e ∙ set-get_or plan k 0)) c

pub kept : (d : Direction) (net : Net) (standing plan : List ℕ) (π : ℕ → ℤ × ℤ) (k b : ℕ) → Certifies net standing plan π → SendsAlong d net standing plan k b
    → (0 < b → π (head d (leg_at net k)) ≡ both_group.add (π (tail d (leg_at net k))) (step_both net standing plan d k)) → Certifies net standing (shifted d plan k b) π
kept Forth net standing plan π k b c s t =
    let l = leg_at net k in
    elim (cases_lt 0 b) [
      | inl h ↦ after net standing plan π k (amount plan k + b) c s.planned
          (up_after_up l.charge (amount standing k) (amount plan k) (amount plan k + b) (π l.start) (π l.end) (omega arith) (t h))
          (down_after_up l.charge (amount standing k) (amount plan k) (amount plan k + b) (π l.start) (π l.end) s.takes.1 (t h))
      | inr h ↦ idle net standing plan π k (amount plan k + b) c (omega arith)
    ]
kept Back net standing plan π k b c s t =
    let l = leg_at net k in
    elim (cases_lt 0 b) [
      | inl h ↦ after net standing plan π k (amount plan k - b) c s.planned
          (up_after_down l.charge (amount standing k) (amount plan k) (amount plan k - b) (π l.start) (π l.end) s.takes.1 (t h))
          (down_after_down l.charge (amount standing k) (amount plan k) (amount plan k - b) (π l.start) (π l.end) (omega arith) (t h))
      | inr h ↦ idle net standing plan π k (amount plan k - b) c (omega arith)
    ]

-- ---- how many bikes may go
pub some_room : (d : Direction) (l : Leg) (s x : ℕ) → 0 < residual d l x → 0 < room d (in_force l) s x
some_room Forth l s x h = grind (arith, nat_tests)
some_room Back l s x h = grind (arith, nat_tests)

taken : (d : Direction) (m s x b : ℕ) → x ≤ m → b ≤ room d m s x → Takes d m s x b
taken Forth m s x b h k = (grind (arith, nat_tests), λ l. grind (arith, nat_tests))
taken Back m s x b h k = (omega arith, λ l. grind (arith, nat_tests))

-- so there is as much capacity in force, or as much carried
pub takes_residual : (d : Direction) (l : Leg) (s x b : ℕ) → Takes d (in_force l) s x b → b ≤ residual d l x
takes_residual Forth l s x b t = omega (arith, t.0)
takes_residual Back l s x b t = t.0

pub rooms : (d : Direction) (net : Net) (standing plan : List ℕ) (k : ℕ) → Fits net plan → Joined net k
    → (0 < residual d (leg_at net k) (amount plan k) → 0 < room_over d net standing plan k) × ((b : ℕ) → b ≤ room_over d net standing plan k → SendsAlong d net standing plan k b)
rooms d net standing plan k f j =
    let here : k < length plan = omega (arith, f.one_each, j.there) in (
      some_room d (leg_at net k) (amount standing k) (amount plan k),
      λ b h. record { joined = j; planned = here; takes = taken d (in_force (leg_at net k)) (amount standing k) (amount plan k) b (f.within k j.there) h },
    )
