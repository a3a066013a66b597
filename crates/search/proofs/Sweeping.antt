-- One round: one step more.
use Rattle.std.proofs.Common.{◌≡◌, ℕ, ◌+◌, ◌^◌, ◌<◌, ◌≤◌, List, length, set, Some, None, sym, refl, ap, ◌∙◌, inl, inr, arith, length-set}
use Rattle.std.proofs.lemmas.Option.{none-some, same_Some}
use native.Mathlib.Decide.{ℕ_discrete}
use Rattle.std.proofs.lemmas.List.{drop-set-lt}
use Rattle.network.specs.Nets.{Net}
use Rattle.theory.specs.declared.Grouped.{Ghosts as Kind}
use Rattle.theory.specs.Walks.{AtMost}
use Rattle.plans.specs.declared.direction.Direction.{Direction}
use Rattle.plans.specs.declared.direction.Direction.TheVariants.{Forth, Back}
use Rattle.plans.specs.Plans.{stations, leg_at, amount}
use Rattle.plans.specs.Residuals.{Joined, tail, head, residual}
use Rattle.steps.specs.declared.load.Load.{Load}
use Rattle.steps.specs.declared.step.Step.{Step}
use Rattle.steps.specs.Loads.{load_of}
use Rattle.search.specs.Labels.{label_at, best, with_better, fresh}
use Rattle.search.specs.Searches.{OverOf}
use Rattle.search.specs.Sweeps.{Offered, Falls, Found, Sweep, Relaxes}
use Rattle.search.specs.declared.label.Arrival.{Arrival}
use Rattle.search.specs.declared.label.Label.{Label}
use Rattle.search.proofs.Optional.{fresh_some, label_same, label_other, undercut, under_lowest}

-- ---- a walk that was offered to a label
module _ {C : Type 0} (K : Kind C) (a b : List (Label C)) (v : ℕ) (x : Arrival C) (inside : v < length a) where
  taken : (AtMost K.group (best K (label_at a v)) (K.worth x.total) → ⊥) → Falls K a (set a v (with_better (label_at a v) x))
  taken beaten w t h =
      elim (ℕ_discrete w v) [
        | yes e ↦ rw (e, label_same a v (with_better (label_at a v) x) inside) (undercut K.group (best K (label_at a v)) (K.worth x.total) t beaten (rw e at h))
        | no k ↦ rw (label_other a v w (with_better (label_at a v) x) k) h
      ]

  pub offered_falls : Offered K a b v x → Falls K a b
  offered_falls (inl o) = rw o.0 (taken o.1)
  offered_falls (inr o) = rw o.0 (λ w t h. h)

  pub offered_best : Offered K a b v x → AtMost K.group (best K (label_at b v)) (K.worth x.total)
  offered_best (inl o) = rw (o.0, label_same a v (with_better (label_at a v) x) inside) (K.group.le_refl (K.worth x.total))
  offered_best (inr o) = rw o.0 o.1

module _ {C : Type 0} (K : Kind C) (size : C → ℕ) (n : ℕ) (T : Step → ℕ → ℕ → K.Member → Type 0) where
  abbrev Swept : List (Label C) → List (Label C) → Type 0
  Swept = Sweep K size n T

  -- before the first step
  pub sweep_none : (old : List (Label C)) → ((v : ℕ) → v < n → (label_at old v).better ≡ None) → ((v : ℕ) (x : Arrival C) → v < n → (label_at old v).arrival ≡ Some x → size x.total + 4294967295 ≤ 2 ^ 40) → Swept old old
  sweep_none old calm small =
      record {
        long = refl;
        beyond = refl;
        arrival = λ v. refl;
        changed = λ v. refl;
        small = small;
        found = λ v x h e. absurd (none-some x (sym (calm v h) ∙ e));
        lower = λ v x y h e f k. none-some x (sym (calm v h) ∙ e);
      }

  -- a step whose walk was offered to the label at its end
  module _ (old a : List (Label C)) (u v : ℕ) (c : K.Member) (l : Step) (x y : Arrival C) (below : v < n) (there : (label_at old u).arrival ≡ Some y) (by_l : x.last ≡ Some l) (t : T l u v c) (sum : K.worth x.total ≡ K.group.add (K.worth y.total) c) (small : size x.total ≤ size y.total + 4294967295) (s : Swept old a) where
    found_x : Found K size n T old v x
    found_x = record { from = u; arrival = y; cost = c; last = l; there = there; by = by_l; step = t; sum = sum; small = small }

    sweep_taken : v < length a → (AtMost K.group (best K (label_at a v)) (K.worth x.total) → ⊥) → Swept old (set a v (with_better (label_at a v) x))
    sweep_taken inside beaten =
        let b = set a v (with_better (label_at a v) x) in
        let here : label_at b v ≡ with_better (label_at a v) x = label_same a v _ inside in
        record {
          long = length-set a v _ ∙ s.long;
          beyond = drop-set-lt n a v _ below ∙ s.beyond;
          arrival = λ w. elim (ℕ_discrete w v) [ yes e ↦ rw (e, here) (s.arrival v) | no k ↦ rw (label_other a v w (with_better (label_at a v) x) k) (s.arrival w) ];
          changed = λ w. elim (ℕ_discrete w v) [ yes e ↦ rw (e, here) (s.changed v) | no k ↦ rw (label_other a v w (with_better (label_at a v) x) k) (s.changed w) ];
          small = s.small;
          found = λ w z h f. elim (ℕ_discrete w v) [
            | yes e ↦ rw (e, ← (same_Some _ _ (rw (e, here) at f))) found_x
            | no k ↦ s.found w z h (rw (label_other a v w (with_better (label_at a v) x) k) at f)
          ];
          lower = λ w z y' h f g i. elim (ℕ_discrete w v) [
            | yes e ↦
                let q : x ≡ z = same_Some _ _ (rw (e, here) at f) in
                let g' : (label_at old v).arrival ≡ Some y' = rw e at g in
                beaten (under_lowest K (label_at a v).better (label_at a v).arrival y' (K.worth x.total) (s.arrival v ∙ g') (λ r p. s.lower v r y' below p g') (rw (← q) at i))
            | no k ↦ s.lower w z y' h (rw (label_other a v w (with_better (label_at a v) x) k) at f) g i
          ];
        }

    sweep_offered : (b : List (Label C)) → v < length a → Offered K a b v x → Swept old b
    sweep_offered b inside (inl o) = rw o.0 (sweep_taken inside o.1)
    sweep_offered b inside (inr o) = rw o.0 s

  -- a step from a changed label, whose total and fee are summed and offered
  pub sweep_fresh : (old a b : List (Label C)) (u v : ℕ) (c : K.Member) (l : Step) (total fee sum : C) → u < n → v < n → v < length a → T l u v c → fresh (label_at old u) ≡ Some total → K.worth fee ≡ c → size fee ≤ 4294967295
      → (size total ≤ 2 ^ 40 → size fee ≤ 2 ^ 40 → (K.worth sum ≡ K.group.add (K.worth total) (K.worth fee)) × (size sum ≤ size total + size fee)) → Offered K a b v (record { total = sum; last = Some l }) → Swept old a
      → Swept old b × AtMost K.group (best K (label_at b v)) (K.group.add (K.worth total) c)
  sweep_fresh old a b u v c l total fee sum hu hv inside t h e z exact o s =
      let f = fresh_some (label_at old u).changed (label_at old u).arrival total h in
      let y = f.1.0 in
      let bound : size total + 4294967295 ≤ 2 ^ 40 = rw f.1.2 at (s.small u y hu f.1.1) in
      let x = exact (omega arith) (omega arith) in
      let q : K.worth sum ≡ K.group.add (K.worth total) c = x.0 ∙ ap (λ m. K.group.add (K.worth total) m) e in (
        sweep_offered old a u v c l (record { total = sum; last = Some l }) y hv f.1.1 refl t (rw f.1.2 q) (rw f.1.2 (omega arith)) s b inside o,
        rw (← q) (offered_best K a b v (record { total = sum; last = Some l }) inside o),
      )

-- ---- the steps of a plan on a network
-- a step over a leg between stations begins and ends at stations
pub tail_below : (net : Net) (d : Direction) (k : ℕ) → Joined net k → tail d (leg_at net k) < stations net
tail_below net Forth k j = j.start_below
tail_below net Back k j = j.end_below

pub head_below : (net : Net) (d : Direction) (k : ℕ) → Joined net k → head d (leg_at net k) < stations net
head_below net Forth k j = j.end_below
head_below net Back k j = j.start_below

module _ {C : Type 0} (K : Kind C) (size : C → ℕ) (net : Net) (plan : List ℕ) (cost : Direction → Load → C) where
  -- a step whose walk was offered to the label at its end
  pub step_offered : (s : Step) (total fee sum : C) (a b : List (Label C)) → Joined net s.leg → stations net ≤ length a → 0 < residual s.direction (leg_at net s.leg) (amount plan s.leg)
      → K.worth fee ≡ K.worth (cost s.direction (load_of net plan s.leg)) → size fee ≤ 4294967295
      → (size total ≤ 2 ^ 40 → size fee ≤ 2 ^ 40 → (K.worth sum ≡ K.group.add (K.worth total) (K.worth fee)) × (size sum ≤ size total + size fee)) → Offered K a b (head s.direction (leg_at net s.leg)) (record { total = sum; last = Some s })
      → Relaxes K size net plan cost s total a b
  step_offered s total fee sum a b j long takes w z exact o old r swept =
      let u = tail s.direction (leg_at net s.leg) in
      let v = head s.direction (leg_at net s.leg) in
      let inside : v < length a = omega (arith, head_below net s.direction s.leg j) in
      let p = sweep_fresh K size (stations net) (OverOf K net plan cost) old a b u v _ s total fee sum
      (tail_below net s.direction s.leg j) (head_below net s.direction s.leg j) inside
      (record { joined = j; begins = refl; ends = refl; takes = takes; costs = refl }) r w z exact o swept in (
        p.0,
        offered_falls K a b v _ inside o,
        λ x c t. rw (← t.ends, t.costs) p.1,
      )
