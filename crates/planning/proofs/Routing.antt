-- Routes of last steps, and what bikes that go along one step leave of them.
use Rattle.std.proofs.Common.{◌≡◌, ℕ, ◌<◌, ◌≤◌, Bool, cond, ltb, leb, ◌≢◌, List, ℤ, pos, negsuc, Some, sym, refl, ap, ◌∙◌, subst, ◌⊎◌, inl, inr, arith, get_or-set_other}
use Rattle.std.proofs.lemmas.Option.{none-some, same_Some}
use Rattle.records.specs.declared.leg.Leg.{Leg}
use Rattle.network.specs.Nets.{Net}
use Rattle.plans.specs.declared.direction.Direction.{Direction}
use Rattle.plans.specs.declared.direction.Direction.TheVariants.{Forth, Back}
use Rattle.plans.specs.Plans.{stations, leg_at, amount, in_force, Fits}
use Rattle.plans.specs.Residuals.{tail, head, step_cents, step_both, both_group, Certifies}
use Rattle.certificates.specs.Pushes.{shifted, room, Sent}
use Rattle.certificates.proofs.Kept.{kept, rooms, takes_residual}
use Rattle.certificates.proofs.Moved.{sent_along}
use Rattle.steps.specs.declared.step.Step.{Step}
use Rattle.steps.specs.Loads.{Over}
use Rattle.search.proofs.Sweeping.{tail_below}
use Rattle.search.specs.Searches.{From}
use Rattle.search.specs.declared.label.Arrival.{Arrival}
use Rattle.search.specs.declared.label.Label.{Label}
use Rattle.planning.specs.Sends.{Both, Known, SettledFor}
use Rattle.planning.specs.Routes.{Leads, room_along, step_cost, Link, Route, begins, goes}

-- ---- steps
pub leads_of : {A : Type 0} (net : Net) (plan : List ℕ) (cost : Direction → ℕ → A) (s : Step) (u v : ℕ) (c : A) → Over net plan cost s u v c → Leads net s u v
leads_of net plan cost s u v c t = record { joined = t.joined; begins = t.begins; ends = t.ends }

-- a step begins at one station
one_from : (net : Net) (s : Step) (u v w z : ℕ) → Leads net s u v → Leads net s w z → u ≡ w
one_from net s u v w z p q = sym p.begins ∙ q.begins

pub from_below : (net : Net) (s : Step) (u v : ℕ) → Leads net s u v → u < stations net
from_below net s u v p = subst (λ w. w < stations net) p.begins (tail_below net s.direction s.leg p.joined)

-- at the same amount a step has the same room and cost
same_cost : (d : Direction) (net : Net) (standing plan other : List ℕ) (k : ℕ) → amount plan k ≡ amount other k → step_both net standing plan d k ≡ step_both net standing other d k
same_cost Forth net standing plan other k e = ap (λ y. (step_cents net Forth k, cond (leb (amount standing k) y) (pos 1) (negsuc 0))) e
same_cost Back net standing plan other k e = ap (λ y. (step_cents net Back k, cond (ltb (amount standing k) y) (negsuc 0) (pos 1))) e

pub same_over : (net : Net) (standing plan other : List ℕ) (s : Step) → amount plan s.leg ≡ amount other s.leg → (room_along net standing plan s ≡ room_along net standing other s) × (step_cost net standing plan s ≡ step_cost net standing other s)
same_over net standing plan other s e = (ap (room s.direction (in_force (leg_at net s.leg)) (amount standing s.leg)) e, same_cost s.direction net standing plan other s.leg e)

-- the plan after bikes went along a step
abbrev pub shifted_by : Step → ℕ → List ℕ → List ℕ
shifted_by s b plan = shifted s.direction plan s.leg b

shifted_other : (s : Step) (b : ℕ) (plan : List ℕ) (k : ℕ) → k ≢ s.leg → amount plan k ≡ amount (shifted_by s b plan) k
shifted_other s b plan k h = sym (get_or-set_other plan s.leg k _ 0 h)

-- ---- the order in which labels were found
pub record Ordered (net : Net) (ls : List (Label Both)) (since : ℕ → ℕ) : Type 0 where
  pub early : (v : ℕ) → v < stations net → since v ≤ stations net
  pub back_from : (u v : ℕ) (x : Arrival Both) (s : Step) → v < stations net → Known ls v x → x.last ≡ Some s → Leads net s u v → since u < since v

pub ordered : (net : Net) (standing old : List ℕ) (f : ℕ → Bool) (ls : List (Label Both)) (z : SettledFor net standing old f ls) → Ordered net ls z.since
ordered net standing old f ls z =
    record {
      early = z.early;
      back_from = λ u v x s h k e p. elim (z.comes v x h k) [
        | inl q ↦ absurd (none-some s (sym q.0 ∙ e))
        | inr q ↦
            let same : q.last ≡ s = same_Some _ _ (sym q.by ∙ e) in
            let l : Leads net s q.from v = subst (λ (r : Step). Leads net r q.from v) same (leads_of net old _ q.last q.from v q.cost q.step) in
            subst (λ w. z.since w < z.since v) (one_from net s q.from v u v l p) q.earlier
      ];
    }

-- a step over a leg begins or ends where any step over it ends
meets : (c d : Direction) (l : Leg) → (head c l ≡ head d l) ⊎ (tail c l ≡ head d l)
meets Forth Forth l = inl refl
meets Forth Back l = inr refl
meets Back Forth l = inr refl
meets Back Back l = inl refl

-- two last steps over one leg do not follow one another
other_leg : (net : Net) (since : ℕ → ℕ) (s r : Step) (u v t w : ℕ) → Leads net s u v → Leads net r t w → since t < since w → since w < since v → r.leg ≡ s.leg → ⊥
other_leg net since s r u v t w p q h i e =
    elim (meets r.direction s.direction (leg_at net s.leg)) [
      | inl f ↦ let g : since w ≡ since v = ap since (sym q.ends ∙ ap (λ k. head r.direction (leg_at net k)) e ∙ f ∙ p.ends) in omega arith
      | inr f ↦ let g : since t ≡ since v = ap since (sym q.begins ∙ ap (λ k. tail r.direction (leg_at net k)) e ∙ f ∙ p.ends) in omega arith
    ]

-- ---- routes
pub route_below : {net : Net} {standing plan : List ℕ} {ls : List (Label Both)} {b v s : ℕ} → Route net standing plan ls b v s → v < stations net
route_below (begins x h k e) = h
route_below (goes x h k l r) = h

-- the last station of a route is a start
pub route_start : {net : Net} {standing plan old : List ℕ} {ls : List (Label Both)} {b v s : ℕ} (f : ℕ → Bool) → SettledFor net standing old f ls → Route net standing plan ls b v s → From net f s
route_start f z (begins {v} x h k e) =
    elim (z.comes v x h k) [
      | inl q ↦ q.1
      | inr q ↦ absurd (none-some q.last (sym e ∙ q.by))
    ]
route_start f z (goes x h k l r) = route_start f z r

-- its last station is a station
pub start_below : {net : Net} {standing plan : List ℕ} {ls : List (Label Both)} {b v s : ℕ} → Route net standing plan ls b v s → s < stations net
start_below (begins x h k e) = h
start_below (goes x h k l r) = start_below r

pub link_less : {net : Net} {standing plan : List ℕ} {ls : List (Label Both)} {b c u v : ℕ} {x : Arrival Both} → b ≤ c → Link net standing plan ls c u v x → Link net standing plan ls b u v x
link_less h l = record { before = l.before; last = l.last; known = l.known; by = l.by; leads = l.leads; room = omega (arith, l.room); tight = l.tight }

pub route_less : {net : Net} {standing plan : List ℕ} {ls : List (Label Both)} {b c v s : ℕ} → b ≤ c → Route net standing plan ls c v s → Route net standing plan ls b v s
route_less h (begins x p k e) = begins x p k e
route_less h (goes x p k l r) = goes x p k (link_less h l) (route_less h r)

module _ {net : Net} {standing plan : List ℕ} {ls : List (Label Both)} {b : ℕ} (other : List ℕ) (Q : ℕ → Type 0)
    (same : (u v : ℕ) (x : Arrival Both) (s : Step) → Q v → v < stations net → Known ls v x → x.last ≡ Some s → Leads net s u v → Q u × (amount plan s.leg ≡ amount other s.leg)) where
  -- in a plan that has the same amounts on its legs
  pub route_at : {v s : ℕ} → Route net standing plan ls b v s → Q v → Route net standing other ls b v s
  route_at (begins x h k e) q = begins x h k e
  route_at (goes {u} {v} x h k l r) q =
      let p = same u v x l.last q h k l.by l.leads in
      let o = same_over net standing plan other l.last p.1 in
      goes x h k (record { before = l.before; last = l.last; known = l.known; by = l.by; leads = l.leads; room = subst (λ c. b ≤ c) o.0 l.room; tight = l.tight ∙ ap (both_group.add _) o.1 }) (route_at r p.0)

-- ---- bikes along one step
module _ (net : Net) (standing plan : List ℕ) (b : ℕ) (fits : Fits net plan) (s : Step) (u v : ℕ) (p : Leads net s u v) (h : b ≤ room_along net standing plan s) where
  pub step_sent : Sent net plan (shifted_by s b plan) b u v
  step_sent =
      let t = ((rooms s.direction net standing plan s.leg fits p.joined).1 b h).takes in
      let m = sent_along s.direction net plan s.leg b fits p.joined.there (takes_residual s.direction (leg_at net s.leg) (amount standing s.leg) (amount plan s.leg) b t) in
      subst (λ w. Sent net plan (shifted_by s b plan) b u w) p.ends (subst (λ w. Sent net plan (shifted_by s b plan) b w (head s.direction (leg_at net s.leg))) p.begins m)

  pub step_kept : (π : ℕ → ℤ × ℤ) → π v ≡ both_group.add (π u) (step_cost net standing plan s) → Certifies net standing plan π → Certifies net standing (shifted_by s b plan) π
  step_kept π t c = kept s.direction net standing plan π s.leg b c ((rooms s.direction net standing plan s.leg fits p.joined).1 b h) (λ _. ap π p.ends ∙ t ∙ ap (λ w. both_group.add (π w) (step_cost net standing plan s)) (sym p.begins))

-- the rest of a route is as it was
pub rest_at : {net : Net} {standing plan : List ℕ} {ls : List (Label Both)} {b : ℕ} (since : ℕ → ℕ) → Ordered net ls since → (s : Step) (u v o : ℕ) → Leads net s u v → since u < since v → Route net standing plan ls b u o → Route net standing (shifted_by s b plan) ls b u o
rest_at {net} {standing} {plan} {ls} {b} since order s u v o p h route =
    route_at (shifted_by s b plan) (λ w. since w < since v)
    (λ t w x r i below k e q.
    let d = order.back_from t w x r below k e q in
    (omega (arith, d, i), shifted_other s b plan r.leg (λ f. other_leg net since s r u v t w p q d i f)))
    route h
