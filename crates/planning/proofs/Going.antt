-- Bikes that go along last steps, one by one.
use Rattle.std.proofs.Common.{◌≡◌, ℕ, zero, suc, ◌+◌, ◌-◌, ◌<◌, ◌≤◌, Bool, List, length, take, drop, set, ℤ, Some, None, Option, sym, refl, ap, ◌∙◌, subst, inl, inr, arith, length-set}
use Rattle.std.proofs.Math.Seq.{take-set-lt}
use Rattle.std.proofs.lemmas.Bool.{lt-ltb, le-ltb}
use Rattle.std.proofs.lemmas.Option.{none-some, same_Some}
use Rattle.std.proofs.lemmas.List.{drop-set-lt, get_or-take}
use Rattle.records.specs.declared.leg.Leg.{Leg}
use Rattle.network.specs.Nets.{Net}
use Rattle.plans.specs.declared.direction.Direction.{Direction}
use Rattle.plans.specs.declared.direction.Direction.TheVariants.{Forth, Back}
use Rattle.plans.specs.Plans.{stations, leg_at, amount, in_force, Fits}
use Rattle.plans.specs.Residuals.{tail, both_group, Certifies}
use Rattle.certificates.specs.Pushes.{carried, Takes, Sent}
use Rattle.certificates.proofs.Kept.{rooms}
use Rattle.certificates.proofs.Moved.{up_to_there}
use Rattle.steps.specs.declared.step.Step.{Step}
use Rattle.search.specs.declared.label.Arrival.{Arrival}
use Rattle.search.specs.declared.label.Label.{Label}
use Rattle.planning.specs.Sends.{Both, Known, SettledFor, Agrees}
use Rattle.planning_rules.specs.Answers.{the_plan}
use Rattle.search.specs.Labels.{last_at, last_of}
use Rattle.planning.specs.Routes.{Leads, room_along, step_cost, Link, Route, begins, goes, pushed, pushed_by, pushed_along, Steps, StepsInto, Along}
use Rattle.planning.proofs.Routing.{shifted_by, from_below, ordered, Ordered, route_below, step_sent, step_kept, rest_at}

-- ---- one step in a table
kept_over : (net : Net) (b : ℕ) (s : Step) (r : Option ℕ) (plan after : List ℕ) → Steps net b s r plan after → (length after ≡ length plan) × (drop (length net.legs) after ≡ drop (length net.legs) plan)
kept_over net b s r plan after (inl q) = (ap length q.2 ∙ length-set plan s.leg _, ap (drop (length net.legs)) q.2 ∙ drop-set-lt (length net.legs) plan s.leg _ q.0)
kept_over net b s r plan after (inr q) = (ap length q.2, ap (drop (length net.legs)) q.2)

kept_into : (net : Net) (ls : List (Label Both)) (v b : ℕ) (r : Option ℕ) (plan after : List ℕ) → StepsInto net ls v b r plan after → (length after ≡ length plan) × (drop (length net.legs) after ≡ drop (length net.legs) plan)
kept_into net ls v b r plan after (inl s) = kept_over net b s.0 r plan after s.2
kept_into net ls v b r plan after (inr s) = (ap length s.2, ap (drop (length net.legs)) s.2)

-- where bikes go on to, or stop
followed : (net : Net) (b : ℕ) (s : Step) (more : ℕ → List ℕ → List ℕ) (u : ℕ) (plan after : List ℕ) → Steps net b s (Some u) plan after → pushed_by more net b (Some s) plan ≡ more u after
followed net b s more u plan after (inl q) = rw (lt-ltb s.leg (length net.legs) q.0) (ap (λ w. more w (set plan s.leg (pushed s.direction (leg_at net s.leg) (amount plan s.leg) b))) (sym (same_Some u (tail s.direction (leg_at net s.leg)) q.1)) ∙ ap (more u) (sym q.2))
followed net b s more u plan after (inr q) = absurd (none-some u (sym q.1))

followed_into : (net : Net) (ls : List (Label Both)) (v b : ℕ) (more : ℕ → List ℕ → List ℕ) (u : ℕ) (plan after : List ℕ) → StepsInto net ls v b (Some u) plan after → pushed_by more net b (last_at ls v) plan ≡ more u after
followed_into net ls v b more u plan after (inl s) = ap (λ o. pushed_by more net b o plan) s.1 ∙ followed net b s.0 more u plan after s.2
followed_into net ls v b more u plan after (inr s) = absurd (none-some u (sym s.1))

halted : (net : Net) (b : ℕ) (s : Step) (more : ℕ → List ℕ → List ℕ) (plan after : List ℕ) → Steps net b s None plan after → pushed_by more net b (Some s) plan ≡ after
halted net b s more plan after (inl q) = absurd (none-some _ q.1)
halted net b s more plan after (inr q) = rw (le-ltb s.leg (length net.legs) q.0) (sym q.2)

halted_into : (net : Net) (ls : List (Label Both)) (v b : ℕ) (more : ℕ → List ℕ → List ℕ) (plan after : List ℕ) → StepsInto net ls v b None plan after → pushed_by more net b (last_at ls v) plan ≡ after
halted_into net ls v b more plan after (inl s) = ap (λ o. pushed_by more net b o plan) s.1 ∙ halted net b s.0 more plan after s.2
halted_into net ls v b more plan after (inr s) = ap (λ o. pushed_by more net b o plan) s.0 ∙ sym s.2

-- as many bikes as a leg takes are pushed whole
same_amount : (d : Direction) (l : Leg) (s x y b : ℕ) → x ≡ y → Takes d (in_force l) s x b → pushed d l y b ≡ carried d x b
same_amount Forth l s x y b e t = omega (arith, e, t.0)
same_amount Back l s x y b e t = ap (λ z. z - b) (sym e)

-- the plan in the table is the one after the step
shown_over : (net : Net) (standing : List ℕ) (b : ℕ) (s : Step) (u v : ℕ) (r : Option ℕ) (plan after : List ℕ) → Fits net (the_plan net plan) → Leads net s u v → b ≤ room_along net standing (the_plan net plan) s → Steps net b s r plan after
    → (r ≡ Some u) × (the_plan net after ≡ shifted_by s b (the_plan net plan))
shown_over net standing b s u v r plan after f p h (inr q) = absurd (omega (arith, q.0, p.joined.there))
shown_over net standing b s u v r plan after f p h (inl q) =
    let m = length net.legs in
    let k = s.leg in
    let g : amount (the_plan net plan) k ≡ amount plan k = get_or-take m plan k 0 q.0 in
    let t = ((rooms s.direction net standing (the_plan net plan) k f p.joined).1 b h).takes in
    let e = same_amount s.direction (leg_at net k) (amount standing k) (amount (the_plan net plan) k) (amount plan k) b g t in
    (q.1 ∙ ap Some p.begins, ap (take m) q.2 ∙ take-set-lt m plan k _ q.0 ∙ ap (set (the_plan net plan) k) e)

shown_into : (net : Net) (standing : List ℕ) (ls : List (Label Both)) (b u v : ℕ) (x : Arrival Both) (r : Option ℕ) (plan after : List ℕ) → Fits net (the_plan net plan) → Known ls v x → (l : Link net standing (the_plan net plan) ls b u v x) → StepsInto net ls v b r plan after
    → (r ≡ Some u) × (the_plan net after ≡ shifted_by l.last b (the_plan net plan))
shown_into net standing ls b u v x r plan after f k l (inl q) =
    let same : q.0 ≡ l.last = same_Some _ _ (sym q.1 ∙ ap last_of k ∙ l.by) in
    shown_over net standing b l.last u v r plan after f l.leads l.room (subst (λ (s : Step). Steps net b s r plan after) same q.2)
shown_into net standing ls b u v x r plan after f k l (inr q) = absurd (none-some l.last (sym q.0 ∙ ap last_of k ∙ l.by))

-- where a walk starts nothing is taken
start_into : (net : Net) (ls : List (Label Both)) (b v : ℕ) (x : Arrival Both) (r : Option ℕ) (plan after : List ℕ) → Known ls v x → x.last ≡ None → StepsInto net ls v b r plan after → (r ≡ None) × (after ≡ plan)
start_into net ls b v x r plan after k e (inl q) = absurd (none-some q.0 (sym (ap last_of k ∙ e) ∙ q.1))
start_into net ls b v x r plan after k e (inr q) = (q.1, q.2)

-- ---- step by step
-- the station that the loop has come to after i turns
pub record Middle (net : Net) (standing : List ℕ) (ls : List (Label Both)) (since : ℕ → ℕ) (b target s i at : ℕ) (plan now : List ℕ) : Type 0 where
  pub route : Route net standing now ls b at s
  pub sent : Sent net plan now b at target
  pub turns : since at + i ≤ since target
  pub kept : (π : ℕ → ℤ × ℤ) → Agrees net ls π → Certifies net standing plan π → Certifies net standing now π

pub record Going (net : Net) (ls : List (Label Both)) (b target i at : ℕ) (plan now : List ℕ) : Type 0 where
  pub long : length now ≡ length plan
  pub beyond : drop (length net.legs) now ≡ drop (length net.legs) plan
  pub same : pushed_along net ls b (stations net + 1 - i) at now ≡ pushed_along net ls b (stations net + 1) target plan
  pub middle : (standing old : List ℕ) (f : ℕ → Bool) (s : ℕ) (z : SettledFor net standing old f ls) → Fits net (the_plan net plan) → Route net standing (the_plan net plan) ls b target s
      → Middle net standing ls z.since b target s i at (the_plan net plan) (the_plan net now)

-- one step more
middle_more : {net : Net} {standing : List ℕ} {ls : List (Label Both)} {b at s : ℕ} (since : ℕ → ℕ) (target i u : ℕ) (plan : List ℕ) (now after : List ℕ) → Ordered net ls since
    → Sent net plan (the_plan net now) b at target → since at + i ≤ since target → ((π : ℕ → ℤ × ℤ) → Agrees net ls π → Certifies net standing plan π → Certifies net standing (the_plan net now) π)
    → Route net standing (the_plan net now) ls b at s → StepsInto net ls at b (Some u) now after → Middle net standing ls since b target s (i + 1) u plan (the_plan net after)
middle_more {net} {standing} {ls} {b} since target i u plan now after o t h c (begins {v = at} x l k e) p = absurd (none-some u (sym (start_into net ls b at x (Some u) now after k e p).0))
middle_more {net} {standing} {ls} {b} since target i u plan now after o t h c (goes {u = w} {v = at} {s = s} x l k link r) p =
    let q = shown_into net standing ls b w at x (Some u) now after t.fits k link p in
    let e : w ≡ u = sym (same_Some _ _ q.0) in
    let d = o.back_from w at x link.last l k link.by link.leads in
    let m : Middle net standing ls since b target s (i + 1) w plan (shifted_by link.last b (the_plan net now)) =
    record {
      route = rest_at since o link.last w at s link.leads d r;
      sent = up_to_there net plan b w at target (the_plan net now) (shifted_by link.last b (the_plan net now)) t (step_sent net standing (the_plan net now) b t.fits link.last w at link.leads link.room);
      turns = omega (arith, d, h);
      kept = λ π a y.
          let f = from_below net link.last w at link.leads in
          let tight = a at x l k ∙ link.tight ∙ ap (λ z. both_group.add z (step_cost net standing (the_plan net now) link.last)) (sym (a w link.before f link.known)) in
          step_kept net standing (the_plan net now) b t.fits link.last w at link.leads link.room π tight (c π a y);
    } in
    subst (λ y. Middle net standing ls since b target s (i + 1) u plan y) (sym q.1) (subst (λ y. Middle net standing ls since b target s (i + 1) y plan (shifted_by link.last b (the_plan net now))) e m)

-- the end
middle_stop : {net : Net} {standing : List ℕ} {ls : List (Label Both)} {b at s : ℕ} (target : ℕ) (plan now after : List ℕ) → Sent net plan (the_plan net now) b at target → Route net standing (the_plan net now) ls b at s → StepsInto net ls at b None now after
    → (at ≡ s) × (after ≡ now)
middle_stop {net} {standing} {ls} {b} target plan now after t (begins {v = at} x l k e) p = (refl, (start_into net ls b at x None now after k e p).1)
middle_stop {net} {standing} {ls} {b} target plan now after t (goes {u = w} {v = at} {s = s} x l k link r) p = absurd (none-some w (shown_into net standing ls b w at x None now after t.fits k link p).0)

module _ (net : Net) (ls : List (Label Both)) (b target : ℕ) (plan : List ℕ) where
  turned : (n i at : ℕ) (now : List ℕ) → i ≤ n → pushed_along net ls b (n + 1 - i) at now ≡ pushed_by (pushed_along net ls b (n + 1 - (i + 1))) net b (last_at ls at) now
  turned n i at now h = let e : n + 1 - i ≡ suc (n + 1 - (i + 1)) = omega (arith, h) in ap (λ k. pushed_along net ls b k at now) e

  ended : (n i at : ℕ) (now : List ℕ) → n < i → pushed_along net ls b (n + 1 - i) at now ≡ now
  ended n i at now h = let e : n + 1 - i ≡ zero = omega (arith, h) in ap (λ k. pushed_along net ls b k at now) e

  pub going_more : (i at u : ℕ) (now after : List ℕ) → i ≤ stations net → Going net ls b target i at plan now → StepsInto net ls at b (Some u) now after → Going net ls b target (i + 1) u plan after
  going_more i at u now after few g p =
      let k = kept_into net ls at b (Some u) now after p in
      record {
        long = k.0 ∙ g.long;
        beyond = k.1 ∙ g.beyond;
        same = sym (turned (stations net) i at now few ∙ followed_into net ls at b (pushed_along net ls b (stations net + 1 - (i + 1))) u now after p) ∙ g.same;
        middle = λ standing old f s z fits r. let m = g.middle standing old f s z fits r in middle_more z.since target i u (the_plan net plan) now after (ordered net standing old f ls z) m.sent m.turns m.kept m.route p;
      }

  pub going_stop : (i at : ℕ) (now after : List ℕ) → i ≤ stations net → Going net ls b target i at plan now → StepsInto net ls at b None now after → Along net ls b target plan after
  going_stop i at now after few g p =
      let k = kept_into net ls at b None now after p in
      record {
        long = k.0 ∙ g.long;
        beyond = k.1 ∙ g.beyond;
        is = sym (turned (stations net) i at now few ∙ halted_into net ls at b (pushed_along net ls b (stations net + 1 - (i + 1))) now after p) ∙ g.same;
        sent = λ standing old f s z fits r.
            let m = g.middle standing old f s z fits r in
            let q = middle_stop target (the_plan net plan) now after m.sent m.route p in
            rw q.1 (subst (λ w. Sent net (the_plan net plan) (the_plan net now) b w target) q.0 m.sent, m.kept);
      }

  pub going_end : (i at : ℕ) (now : List ℕ) → stations net < i → Going net ls b target i at plan now → Along net ls b target plan now
  going_end i at now h g =
      record {
        long = g.long;
        beyond = g.beyond;
        is = sym (ended (stations net) i at now h) ∙ g.same;
        sent = λ standing old f s z fits r. let m = g.middle standing old f s z fits r in absurd (omega (arith, m.turns, z.early target (route_below r)));
      }
