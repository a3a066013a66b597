-- Last steps followed back, one by one.
use Rattle.std.proofs.Common.{◌≡◌, ℕ, zero, suc, ◌+◌, ◌-◌, ◌<◌, ◌≤◌, min, Bool, List, ℤ, Some, None, Option, sym, ap, ◌∙◌, subst, inl, inr, arith}
use Rattle.network.specs.Nets.{Net}
use Rattle.plans.specs.Plans.{stations, leg_at, amount}
use Rattle.plans.specs.Residuals.{both_group}
use Rattle.certificates.proofs.Kept.{some_room}
use Rattle.costs.specs.Kinds.{both_kind}
use Rattle.steps.specs.declared.step.Step.{Step}
use Rattle.steps.specs.Fees.{fee_both}
use Rattle.search.specs.Searches.{OverOf}
use Rattle.search.specs.declared.label.Arrival.{Arrival}
use Rattle.search.specs.declared.label.Label.{Label}
use Rattle.steps.proofs.Paying.{paid_both}
use Rattle.planning.specs.Sends.{Both, Known, SettledFor}
use Rattle.planning.specs.Routes.{room_along, step_cost, Route, begins, goes, Sees, Finds}
use Rattle.planning.specs.Sendable.{reach_by, reach_from, reach_of}
use Rattle.planning.specs.declared.routes.Sight.{Sight}
use Rattle.planning.specs.declared.routes.Sight.TheVariants.{Begun, Came}
use Rattle.planning.specs.declared.routes.Reach.{Reach}
use Rattle.planning.proofs.Reaching.{seen}
use Rattle.planning.proofs.Routing.{leads_of, from_below, same_over, ordered, link_less}

-- a step of the plan that labels are of
step_of : (net : Net) (standing old : List ℕ) (s : Step) (u v : ℕ) (c : ℤ × ℤ) → OverOf both_kind net old (fee_both standing) s u v c → (1 ≤ room_along net standing old s) × (c ≡ step_cost net standing old s)
step_of net standing old s u v c t = (some_room s.direction (leg_at net s.leg) (amount standing s.leg) (amount old s.leg) t.takes, t.costs ∙ paid_both net standing old s.direction s.leg)

-- the station that the loop has come to after i turns
pub record Measuring (net : Net) (standing plan : List ℕ) (ls : List (Label Both)) (target i at room : ℕ) : Type 0 where
  pub some : 0 < room
  pub extends : (b s : ℕ) → b ≤ room → Route net standing plan ls b at s → Route net standing plan ls b target s
  pub same : reach_from net standing ls plan (stations net + 1 - i) at room ≡ reach_of net standing ls plan target
  pub known : (old : List ℕ) (f : ℕ → Bool) (x : Arrival Both) (z : SettledFor net standing old f ls) → target < stations net → Known ls target x
      → (at < stations net) × ((y : Arrival Both) × Known ls at y) × (z.since at + i ≤ z.since target)

module _ (net : Net) (standing plan : List ℕ) (ls : List (Label Both)) (target : ℕ) where
  -- one step more, where turns are left
  turned : (n i at room : ℕ) (r : Option Sight) → i ≤ n → Sees net standing plan ls at r → reach_from net standing ls plan (n + 1 - i) at room ≡ reach_by (reach_from net standing ls plan (n + 1 - (i + 1))) at room r
  turned n i at room r h s =
      let e : n + 1 - i ≡ suc (n + 1 - (i + 1)) = omega (arith, h) in
      ap (λ k. reach_from net standing ls plan k at room) e ∙ ap (reach_by (reach_from net standing ls plan (n + 1 - (i + 1))) at room) (seen net standing ls plan at r s)

  ended : (n i at room : ℕ) → n < i → reach_from net standing ls plan (n + 1 - i) at room ≡ None
  ended n i at room h = let e : n + 1 - i ≡ zero = omega (arith, h) in ap (λ k. reach_from net standing ls plan k at room) e

  -- what is promised of an answer
  pub record Answers (r : Option Reach) : Type 0 where
    pub finds : Finds net standing plan ls target r
    pub is : r ≡ reach_of net standing ls plan target

  pub measuring_more : (i at room u less : ℕ) → i ≤ stations net → Measuring net standing plan ls target i at room → Sees net standing plan ls at (Some (Came u less)) → Measuring net standing plan ls target (i + 1) u (min room less)
  measuring_more i at room u less few m s =
      let x = s.2.0 in
      let link = s.2.2 in
      record {
        some = omega (arith, m.some, s.1);
        extends = λ b e l r. m.extends b e (omega arith) (goes x s.0 s.2.1 (link_less (omega arith) link) r);
        same = sym (turned (stations net) i at room (Some (Came u less)) few s) ∙ m.same;
        known = λ old f a z below k.
            let q = m.known old f a z below k in
            let d = (ordered net standing old f ls z).back_from u at x link.last s.0 s.2.1 link.by link.leads in
            (from_below net link.last u at link.leads, (link.before, link.known), omega (arith, q.2, d));
      }

  pub measured : (i at room : ℕ) → i ≤ stations net → Measuring net standing plan ls target i at room → Sees net standing plan ls at (Some Begun) → Answers (Some (record { start = at; room = room }))
  measured i at room few m s =
      record {
        finds = (m.some, m.extends room at (omega arith) (begins s.1.0 s.0 s.1.1 s.1.2));
        is = sym (turned (stations net) i at room (Some Begun) few s) ∙ m.same;
      }

  lost_by : (i at room : ℕ) → Measuring net standing plan ls target i at room → Sees net standing plan ls at None → Finds net standing plan ls target None
  lost_by i at room m s old f x z same below k =
      let q = m.known old f x z below k in
      let y = q.1.0 in
      let n = s y q.0 q.1.1 in
      elim (z.comes at y q.0 q.1.1) [
        | inl e ↦ n.0 e.0
        | inr c ↦
            let p = leads_of net old _ c.last c.from at c.cost c.step in
            let w = step_of net standing old c.last c.from at c.cost c.step in
            let o = same_over net standing old plan c.last (same c.last.leg p.joined.there) in
            n.1 c.from (record { before = c.arrival; last = c.last; known = c.there; by = c.by; leads = p; room = subst (λ t. 1 ≤ t) o.0 w.0; tight = c.sum ∙ ap (both_group.add _) (w.1 ∙ o.1) })
      ]

  pub lost : (i at room : ℕ) → i ≤ stations net → Measuring net standing plan ls target i at room → Sees net standing plan ls at None → Answers None
  lost i at room few m s = record { finds = lost_by i at room m s; is = sym (turned (stations net) i at room None few s) ∙ m.same }

  astray_by : (i at room : ℕ) → stations net < i → Measuring net standing plan ls target i at room → Finds net standing plan ls target None
  astray_by i at room h m old f x z same below k = let q = m.known old f x z below k in omega (arith, q.2, z.early target below)

  pub astray : (i at room : ℕ) → stations net < i → Measuring net standing plan ls target i at room → Answers None
  astray i at room h m = record { finds = astray_by i at room h m; is = sym (ended (stations net) i at room h) ∙ m.same }
