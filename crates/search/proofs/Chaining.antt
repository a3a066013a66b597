-- Chains of legs: one leg more.
use Rattle.std.proofs.Common.{◌≡◌, ℕ, suc, ◌<◌, ◌≤◌, ◌≢◌, List, length, set, None, Some, Option, sym, refl, ap, ◌∙◌, subst, arith, length-set, get_or-set_other, get_or-set_same}
use native.Mathlib.Decide.{ℕ_discrete}
use Rattle.std.proofs.lemmas.Option.{same_Some}
use Rattle.records.specs.declared.leg.Leg.{Leg}
use Rattle.network.specs.Nets.{Net}
use Rattle.plans.specs.declared.direction.Direction.{Direction}
use Rattle.plans.specs.declared.direction.Direction.TheVariants.{Forth, Back}
use Rattle.plans.specs.Plans.{stations, leg_at}
use Rattle.plans.specs.Residuals.{Joined, tail}
use Rattle.search.proofs.Sweeping.{tail_below}
use Rattle.search.specs.Chains.{unlinked, links_at, link, past, On, Chained, put_next, put_forth, put_back}
use Rattle.search.specs.declared.chains.Links.{Links}

same_at : (ts : List Links) (k : ℕ) (l : Links) → k < length ts → links_at (set ts k l) k ≡ l
same_at ts k l h = get_or-set_same ts k l unlinked h

other_at : (ts : List Links) (k i : ℕ) (l : Links) → i ≢ k → links_at (set ts k l) i ≡ links_at ts i
other_at ts k i l h = get_or-set_other ts k i l unlinked h

-- a leg that has an end which is no station is on no chain
pub chained_skip : (net : Net) (m : ℕ) (heads nexts : List Links) → (Joined net m → ⊥) → Chained net m heads nexts → Chained net (suc m) heads nexts
chained_skip net m heads nexts void c =
    let below : (d : Direction) (u k : ℕ) → k < suc m → On net d u k → k < m =
    λ d u k h o. elim (ℕ_discrete k m) [ yes e ↦ absurd (void (subst (Joined net) e o.joined)) | no q ↦ omega arith ] in
    record {
      first = λ d u j h o. c.first d u j (below d u j h o) o;
      head = λ d u k h q. let z = c.head d u k h q in (omega (arith, z.0), z.1);
      next = λ d u j k i h o p. c.next d u j k i (below d u k h p) o p;
      after = λ d u k i h o q. c.after d u k i (below d u k h o) o q;
    }

-- by the links of each direction
module _ (net : Net) (m : ℕ) (heads nexts heads' nexts' : List Links) (j : Joined net m)
    (at_head : (d : Direction) → link d (links_at heads' (tail d (leg_at net m))) ≡ Some m)
    (heads_stay : (d : Direction) (u : ℕ) → u ≢ tail d (leg_at net m) → link d (links_at heads' u) ≡ link d (links_at heads u))
    (at_next : (d : Direction) → link d (links_at nexts' m) ≡ link d (links_at heads (tail d (leg_at net m))))
    (nexts_stay : (d : Direction) (k : ℕ) → k ≢ m → link d (links_at nexts' k) ≡ link d (links_at nexts k))
    (c : Chained net m heads nexts) where
  itself : (d : Direction) (u k : ℕ) → k ≡ m → On net d u k → tail d (leg_at net m) ≡ u
  itself d u k e o = subst (λ i. tail d (leg_at net i) ≡ u) e o.begins

  first : (d : Direction) (u i : ℕ) → i < suc m → On net d u i → i < past (link d (links_at heads' u))
  first d u i h o =
      elim (ℕ_discrete u (tail d (leg_at net m))) [
        | yes e ↦ rw (e, at_head d) h
        | no q ↦ elim (ℕ_discrete i m) [ yes e ↦ absurd (q (sym (itself d u i e o))) | no p ↦ rw (heads_stay d u q) (c.first d u i (omega arith) o) ]
      ]

  head : (d : Direction) (u k : ℕ) → u < stations net → link d (links_at heads' u) ≡ Some k → (k < suc m) × On net d u k
  head d u k h e =
      elim (ℕ_discrete u (tail d (leg_at net m))) [
        | yes q ↦
            let p : k ≡ m = sym (same_Some _ _ (sym (at_head d) ∙ ap (λ v. link d (links_at heads' v)) (sym q) ∙ e)) in
            (omega arith, record { joined = subst (Joined net) (sym p) j; begins = ap (λ i. tail d (leg_at net i)) p ∙ sym q })
        | no q ↦ let z = c.head d u k h (sym (heads_stay d u q) ∙ e) in (omega (arith, z.0), z.1)
      ]

  next : (d : Direction) (u i k : ℕ) → i < k → k < suc m → On net d u i → On net d u k → i < past (link d (links_at nexts' k))
  next d u i k l h o p =
      elim (ℕ_discrete k m) [
        | yes e ↦ rw (e, at_next d, itself d u k e p) (c.first d u i (omega arith) o)
        | no q ↦ rw (nexts_stay d k q) (c.next d u i k l (omega arith) o p)
      ]

  after : (d : Direction) (u k i : ℕ) → k < suc m → On net d u k → link d (links_at nexts' k) ≡ Some i → (i < k) × On net d u i
  after d u k i h o e =
      elim (ℕ_discrete k m) [
        | yes q ↦
            let b : tail d (leg_at net m) ≡ u = itself d u k q o in
            let f : link d (links_at heads u) ≡ Some i = ap (λ v. link d (links_at heads v)) (sym b) ∙ sym (at_next d) ∙ ap (λ v. link d (links_at nexts' v)) (sym q) ∙ e in
            let z = c.head d u i (rw (← o.begins) (tail_below net d k o.joined)) f in
            (omega (arith, z.0), z.1)
        | no q ↦ c.after d u k i (omega arith) o (sym (nexts_stay d k q) ∙ e)
      ]

  pub chained_by : Chained net (suc m) heads' nexts'
  chained_by = record { first = first; head = head; next = next; after = after }

-- as the leg is put
module _ (net : Net) (m : ℕ) (leg : Leg) (heads nexts : List Links) (j : Joined net m) (e : leg_at net m ≡ leg) (inside : m < length nexts) (start_inside : leg.start < length heads) (end_inside : leg.end < length heads) where
  heads_forth : List Links
  heads_forth = put_forth m leg heads

  end_still_inside : leg.end < length heads_forth
  unfolding heads_forth
  end_still_inside = simp length-set end_inside

  heads_both : List Links
  heads_both = put_back m leg heads_forth

  forth_is : (u : ℕ) → (links_at heads_both u).forth ≡ (links_at heads_forth u).forth
  unfolding heads_both
  forth_is u =
      elim (ℕ_discrete u leg.end) [
        | yes q ↦ rw (q, same_at heads_forth leg.end (record { forth = (links_at heads_forth leg.end).forth; back = Some m }) end_still_inside) refl
        | no q ↦ ap (λ l. l.forth) (other_at heads_forth leg.end u _ q)
      ]

  back_is : (u : ℕ) → (links_at heads_forth u).back ≡ (links_at heads u).back
  unfolding heads_forth
  back_is u =
      elim (ℕ_discrete u leg.start) [
        | yes q ↦ rw (q, same_at heads leg.start (record { forth = Some m; back = (links_at heads leg.start).back }) start_inside) refl
        | no q ↦ ap (λ l. l.back) (other_at heads leg.start u _ q)
      ]

  at_head : (d : Direction) → link d (links_at heads_both (tail d leg)) ≡ Some m
  unfolding heads_both heads_forth
  at_head Forth = forth_is leg.start ∙ ap (λ l. l.forth) (same_at heads leg.start _ start_inside)
  at_head Back = ap (λ l. l.back) (same_at heads_forth leg.end _ end_still_inside)

  heads_stay : (d : Direction) (u : ℕ) → u ≢ tail d leg → link d (links_at heads_both u) ≡ link d (links_at heads u)
  unfolding heads_both heads_forth
  heads_stay Forth u q = forth_is u ∙ ap (λ l. l.forth) (other_at heads leg.start u _ q)
  heads_stay Back u q = ap (λ l. l.back) (other_at heads_forth leg.end u _ q) ∙ back_is u

  at_next : (d : Direction) → link d (links_at (put_next m leg heads nexts) m) ≡ link d (links_at heads (tail d leg))
  at_next Forth = ap (λ l. l.forth) (same_at nexts m _ inside)
  at_next Back = ap (λ l. l.back) (same_at nexts m _ inside)

  nexts_stay : (d : Direction) (k : ℕ) → k ≢ m → link d (links_at (put_next m leg heads nexts) k) ≡ link d (links_at nexts k)
  nexts_stay d k q = ap (link d) (other_at nexts m k _ q)

  pub chained_more : Chained net m heads nexts → Chained net (suc m) (put_back m leg (put_forth m leg heads)) (put_next m leg heads nexts)
  unfolding heads_both heads_forth
  chained_more =
      chained_by net m heads nexts heads_both (put_next m leg heads nexts) j (λ d. rw e (at_head d)) (λ d u q. heads_stay d u (rw e at q)) (λ d. rw e (at_next d)) nexts_stay

  pub chained_put_in : (heads' nexts' : List Links) → heads' ≡ put_back m leg (put_forth m leg heads) → nexts' ≡ put_next m leg heads nexts → Chained net m heads nexts → Chained net (suc m) heads' nexts'
  chained_put_in heads' nexts' p q c = rw (p, q) (chained_more c)

pub chained_put : (net : Net) (m : ℕ) (leg : Leg) (heads nexts heads' nexts' : List Links) → Joined net m → leg_at net m ≡ leg → m < length nexts → stations net ≤ length heads
    → heads' ≡ put_back m leg (put_forth m leg heads) → nexts' ≡ put_next m leg heads nexts → Chained net m heads nexts → Chained net (suc m) heads' nexts'
chained_put net m leg heads nexts heads' nexts' j e inside wide p q =
    let s : leg.start < length heads = omega (arith, j.start_below, ap (λ l. l.start) e) in
    let f : leg.end < length heads = omega (arith, j.end_below, ap (λ l. l.end) e) in
    chained_put_in net m leg heads nexts j e inside s f heads' nexts' p q

-- ---- chains lead downwards
pub next_below : (net : Net) (m : ℕ) (heads nexts : List Links) → Chained net m heads nexts → (d : Direction) (u k : ℕ) → k < m → On net d u k → past (link d (links_at nexts k)) ≤ k
next_below net m heads nexts c d u k h o = by (link d (links_at nexts k)) refl
  where
    by : (x : Option ℕ) → link d (links_at nexts k) ≡ x → past x ≤ k
    by None e = omega arith
    by (Some i) e = omega (arith, (c.after d u k i h o e).0)
