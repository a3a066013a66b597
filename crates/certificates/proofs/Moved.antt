-- One leg takes more bikes or fewer: the plan still fits, and only the ends of the leg have another number left over.
-- Such pushes join, and bikes that go from where they are over to where they are lacking are over no more.
use Rattle.std.proofs.Common.{◌≡◌, ℕ, zero, suc, ◌+◌, ◌-◌, ◌<◌, ◌≤◌, Bool, true, false, cond, eqb, List, [], length, set, ℤ, pos, negsuc, ◌+ℤ◌, ◌-ℤ◌, ◌≤ℤ◌, sym, refl, ap, ◌∙◌, arith}
use native.Mathlib.Decide.{ℕ_discrete}
use Rattle.std.proofs.lemmas.Int.{ints}
use Rattle.std.proofs.lemmas.List.{length-set, get_or-set_same, get_or-set_other}
use Rattle.std.proofs.lemmas.Bool.{eq-eqb, ne_eqb}
use Rattle.network.specs.Nets.{Net}
use Rattle.theory.specs.Arcs.{Arc, gather}
use Rattle.theory.specs.Trails.{here}
use Rattle.theory.proofs.Pushing.{gather_set}
use Rattle.plans.specs.declared.direction.Direction.{Direction}
use Rattle.plans.specs.declared.direction.Direction.TheVariants.{Forth, Back}
use Rattle.plans.specs.Residuals.{tail, head, residual}
use Rattle.plans.specs.Plans.{sum_below, stations, leg_at, amount, in_force, bikes_out, bikes_in, Fits}
use Rattle.plans.specs.Cuts.{left_over}
use Rattle.plans.proofs.Arcing.{arc, arcs_of, no_arc, arcs_length, arcs_at, gathered_out, gathered_in}
use Rattle.certificates.specs.Pushes.{shifted, Sent}
use Rattle.certificates.specs.Totals.{over, all_over}

-- ---- the same plan with the amount y on the leg k
fits_set : (net : Net) (plan : List ℕ) (k y : ℕ) → Fits net plan → y ≤ in_force (leg_at net k) → Fits net (set plan k y)
fits_set net plan k y f h =
    record {
      one_each = simp length-set f.one_each;
      within = λ i l. elim (ℕ_discrete i k) [
        | yes e ↦ rw e (rw (get_or-set_same plan k y 0 (omega (arith, f.one_each))) h)
        | no n ↦ rw (get_or-set_other plan k i y 0 n) (f.within i l)
      ];
    }

-- what gathers at a station, at one end of the legs
end_set : (end : Arc (ℤ × ℤ) → ℕ) (bikes : List ℕ → ℕ) (net : Net) (plan : List ℕ) (k y w : ℕ) → ((p : List ℕ) → length p ≡ length net.legs → gather end w (arcs_of net []) p ≡ bikes p) → Fits net plan → k < length net.legs
    → bikes (set plan k y) + cond (eqb (end (arc (leg_at net k) (amount [] k))) w) (amount plan k) 0 ≡ bikes plan + cond (eqb (end (arc (leg_at net k) (amount [] k))) w) y 0
end_set end bikes net plan k y w e f l =
    let at = arcs_at net.legs (amount []) k l in
    let n = arcs_length net.legs (amount []) in
    let m = length-set plan k y in
    let o = f.one_each in
    omega (arith, gather_set end w no_arc (arcs_of net []) plan k y (omega arith) (omega arith), e plan o, e (set plan k y) (omega arith), ap (λ a. cond (eqb (end a) w) (amount plan k) 0) at, ap (λ a. cond (eqb (end a) w) y 0) at)

out_set : (net : Net) (plan : List ℕ) (k y : ℕ) → Fits net plan → k < length net.legs → (w : ℕ) → bikes_out net (set plan k y) w + cond (eqb (leg_at net k).start w) (amount plan k) 0 ≡ bikes_out net plan w + cond (eqb (leg_at net k).start w) y 0
out_set net plan k y f l w = end_set (λ a. a.from) (λ p. bikes_out net p w) net plan k y w (λ p h. gathered_out net [] p w h) f l

in_set : (net : Net) (plan : List ℕ) (k y : ℕ) → Fits net plan → k < length net.legs → (w : ℕ) → bikes_in net (set plan k y) w + cond (eqb (leg_at net k).end w) (amount plan k) 0 ≡ bikes_in net plan w + cond (eqb (leg_at net k).end w) y 0
in_set net plan k y f l w = end_set (λ a. a.to) (λ p. bikes_in net p w) net plan k y w (λ p h. gathered_in net [] p w h) f l

-- ---- the ends one by one
here_at : (b u : ℕ) → here b u u ≡ b
here_at b u = rw (eq-eqb u u refl)

here_not : (b u w : ℕ) → (u ≡ w → ⊥) → here b u w ≡ 0
here_not b u w n = rw (ne_eqb u w n)

by_ends : (net : Net) (plan after : List ℕ) (b u v : ℕ) → Fits net after → ((w : ℕ) → left_over net after w ≡ (left_over net plan w -ℤ pos (here b u w)) +ℤ pos (here b v w)) → Sent net plan after b u v
by_ends net plan after b u v f m =
    record {
      fits = f;
      moved = m;
      others = λ w p q. omega (arith, ints, m w, here_not b u w p, here_not b v w q);
      first = λ n. omega (arith, ints, m u, here_at b u, here_not b v u (λ e. n (sym e)));
      last = λ n. omega (arith, ints, m v, here_at b v, here_not b u v n);
      round = λ e w. omega (arith, ints, m w, ap (λ z. here b z w) e);
    }

-- ---- forth and back
at_end_more : (t : Bool) (x b o o' : ℕ) → o' + cond t x 0 ≡ o + cond t (x + b) 0 → o' ≡ o + cond t b 0
at_end_more true x b o o' e = omega arith
at_end_more false x b o o' e = omega arith

at_end_fewer : (t : Bool) (x b o o' : ℕ) → b ≤ x → o' + cond t x 0 ≡ o + cond t (x - b) 0 → o' + cond t b 0 ≡ o
at_end_fewer true x b o o' h e = omega arith
at_end_fewer false x b o o' h e = omega arith

pub sent_along : (d : Direction) (net : Net) (plan : List ℕ) (k b : ℕ) → Fits net plan → k < length net.legs → b ≤ residual d (leg_at net k) (amount plan k) → Sent net plan (shifted d plan k b) b (tail d (leg_at net k)) (head d (leg_at net k))
sent_along Forth net plan k b f l h =
    by_ends net plan (shifted Forth plan k b) b (leg_at net k).start (leg_at net k).end (fits_set net plan k (amount plan k + b) f (omega (arith, f.within k l)))
    (λ w. let o = at_end_more (eqb (leg_at net k).start w) (amount plan k) b (bikes_out net plan w) (bikes_out net (shifted Forth plan k b) w) (out_set net plan k (amount plan k + b) f l w) in
    let i = at_end_more (eqb (leg_at net k).end w) (amount plan k) b (bikes_in net plan w) (bikes_in net (shifted Forth plan k b) w) (in_set net plan k (amount plan k + b) f l w) in
    omega (arith, ints))
sent_along Back net plan k b f l h =
    by_ends net plan (shifted Back plan k b) b (leg_at net k).end (leg_at net k).start (fits_set net plan k (amount plan k - b) f (omega (arith, f.within k l)))
    (λ w. let o = at_end_fewer (eqb (leg_at net k).start w) (amount plan k) b (bikes_out net plan w) (bikes_out net (shifted Back plan k b) w) h (out_set net plan k (amount plan k - b) f l w) in
    let i = at_end_fewer (eqb (leg_at net k).end w) (amount plan k) b (bikes_in net plan w) (bikes_in net (shifted Back plan k b) w) h (in_set net plan k (amount plan k - b) f l w) in
    omega (arith, ints))

-- ---- one push after another; both ways round, since a lemma for the two would have to be told how the ends between cancel
pub unsent : (net : Net) (plan : List ℕ) (b u : ℕ) → Fits net plan → Sent net plan plan b u u
unsent net plan b u f = by_ends net plan plan b u u f (λ w. omega (arith, ints))

pub on_from_there : (net : Net) (plan : List ℕ) (b u v w : ℕ) (mid after : List ℕ) → Sent net plan mid b u v → Sent net mid after b v w → Sent net plan after b u w
on_from_there net plan b u v w mid after s t = by_ends net plan after b u w t.fits (λ i. omega (arith, ints, s.moved i, t.moved i))

pub up_to_there : (net : Net) (plan : List ℕ) (b u v w : ℕ) (mid after : List ℕ) → Sent net plan mid b v w → Sent net mid after b u v → Sent net plan after b u w
up_to_there net plan b u v w mid after s t = by_ends net plan after b u w t.fits (λ i. omega (arith, ints, s.moved i, t.moved i))

-- ---- what is over
over_less : (x y : ℤ) (b : ℕ) → y ≡ x -ℤ pos b → pos b ≤ℤ x → over y + b ≡ over x
over_less (pos a) (pos c) b e h = omega (arith, ints)
over_less (pos a) (negsuc c) b e h = absurd (omega (arith, ints))
over_less (negsuc a) y b e h = absurd (omega (arith, ints))

over_none : (x : ℤ) → x ≤ℤ pos 0 → over x ≡ 0
over_none (pos a) h = omega (arith, ints)
over_none (negsuc a) h = refl

-- two functions that differ at one number only
sum_falls : (n : ℕ) (f g : ℕ → ℕ) (u b : ℕ) → g u + b ≡ f u → ((w : ℕ) → (u ≡ w → ⊥) → g w ≡ f w) → (u < n → sum_below n g + b ≡ sum_below n f) × (n ≤ u → sum_below n g ≡ sum_below n f)
sum_falls zero f g u b e h = (λ l. absurd (omega arith), λ l. refl)
sum_falls (suc n) f g u b e h =
    let r = sum_falls n f g u b e h in (
      λ l. elim (ℕ_discrete u n) [
        | yes q ↦ omega (arith, r.1 (omega arith), ap f q, ap g q)
        | no d ↦ omega (arith, r.0 (omega arith), h n d)
      ],
      λ l. omega (arith, r.1 (omega arith), h n (λ q. omega arith)),
    )

pub lowers_over : (net : Net) (plan after : List ℕ) (b u v : ℕ) → Sent net plan after b u v → u < stations net → (u ≡ v → ⊥) → pos b ≤ℤ left_over net plan u → (left_over net plan v +ℤ pos b) ≤ℤ pos 0
    → all_over net after + b ≡ all_over net plan
lowers_over net plan after b u v s l d p q =
    (sum_falls (stations net) (λ w. over (left_over net plan w)) (λ w. over (left_over net after w)) u b (over_less (left_over net plan u) (left_over net after u) b (s.first d) p)
    (λ w n. elim (ℕ_discrete v w) [
      | yes e ↦ let k = s.last d in over_none (left_over net after w) (rw (← e) (omega (arith, ints))) ∙ sym (over_none (left_over net plan w) (rw (← e) (omega (arith, ints))))
      | no i ↦ ap over (s.others w n i)
    ])).0 l
