-- What labels show, as a function, and how many bikes last steps take.
use Rattle.std.proofs.Common.{◌≡◌, ℕ, zero, suc, ◌+◌, ◌<◌, ◌≤◌, min, Bool, eqb, ltb, ◌&&◌, ◌≢◌, List, length, get_or, ℤ, pos, neg_ℤ, ◌+ℤ◌, Some, None, Option, Decides, sym, refl, ap, ◌∙◌, subst, inl, inr, arith}
use Rattle.std.proofs.lemmas.Option.{none-some, same_Some}
use Rattle.std.proofs.lemmas.Bool.{both_ways, cases_Bool, cases_lt, lt-ltb, le-ltb}
use Rattle.std.proofs.lemmas.Bool.Decides.{Decides-and, Decides-eqb, Decides-int_eq, Decides-like, Decides-ltb}
use Rattle.theory.specs.Groups.{two}
use Rattle.costs.specs.Kinds.{both_kind}
use Rattle.network.specs.Nets.{Net}
use Rattle.plans.specs.Plans.{stations, leg_at}
use Rattle.plans.specs.Residuals.{Joined, tail, head, both_group}
use Rattle.certificates.specs.Totals.{over}
use Rattle.steps.specs.declared.step.Step.{Step}
use Rattle.search.specs.Labels.{label_at}
use Rattle.search.specs.declared.label.Arrival.{Arrival}
use Rattle.search.specs.declared.label.Label.{Label}
use Rattle.search.proofs.Optional.{option_cases}
use Rattle.planning.specs.declared.routes.Sight.{Sight}
use Rattle.planning.specs.declared.routes.Sight.TheVariants.{Begun, Came}
use Rattle.planning.specs.declared.routes.Reach.{Reach}
use Rattle.planning.specs.Sends.{Both, Known, SettledFor}
use Rattle.planning.specs.declared.routes.Quote.{Quote}
use Rattle.planning.specs.Routes.{Leads, Link, Route, begins, goes, Quotes, room_along, step_cost, Sees}
use Rattle.planning.proofs.Routing.{Ordered, ordered, link_less, route_below}
use Rattle.planning.specs.Sendable.{is_joined, is_tight, sight_over, sight_by, sight_of, sight_at, spare, reach_by, reach_from, reach_of, bikes_along, bikes_sent, Contents, CanSend, IsMostSendable}

-- ---- the tests
joined_decides : (net : Net) (k : ℕ) → Decides (is_joined net k) (Joined net k)
joined_decides net k =
    Decides-like _ (λ p. record { there = p.0.0; start_below = p.0.1; end_below = p.1 }) (λ q. ((q.there, q.start_below), q.end_below))
    (Decides-and _ _ (Decides-and _ _ (Decides-ltb k (length net.legs)) (Decides-ltb (leg_at net k).start (stations net))) (Decides-ltb (leg_at net k).end (stations net)))

tight_decides : (total before : Both) (c : ℤ × ℤ) → Decides (is_tight total before c) (both_kind.worth total ≡ both_group.add (both_kind.worth before) c)
tight_decides total before c =
    Decides-like _ (λ p. two p.0 p.1) (λ e. (ap (λ w. w.0) e, ap (λ w. w.1) e))
    (Decides-and _ _ (Decides-int_eq total.first.0 (before.first.0 +ℤ c.0)) (Decides-int_eq total.second.0 (before.second.0 +ℤ c.1)))

module _ (net : Net) (standing : List ℕ) (ls : List (Label Both)) (plan : List ℕ) (v : ℕ) where
  -- a step that may be taken
  record Fine (total before : Both) (s : Step) : Type 0 where
    joined : Joined net s.leg
    ends : head s.direction (leg_at net s.leg) ≡ v
    room : 0 < room_along net standing plan s
    tight : both_kind.worth total ≡ both_group.add (both_kind.worth before) (step_cost net standing plan s)

  fine_decides : (total before : Both) (s : Step)
      → Decides (is_joined net s.leg && eqb (head s.direction (leg_at net s.leg)) v && ltb 0 (room_along net standing plan s) && is_tight total before (step_cost net standing plan s)) (Fine total before s)
  fine_decides total before s =
      Decides-like _ (λ p. record { joined = p.0.0.0; ends = p.0.0.1; room = p.0.1; tight = p.1 }) (λ q. (((q.joined, q.ends), q.room), q.tight))
      (Decides-and _ _ (Decides-and _ _ (Decides-and _ _ (joined_decides net s.leg) (Decides-eqb _ v)) (Decides-ltb 0 (room_along net standing plan s))) (tight_decides total before (step_cost net standing plan s)))

  -- where it may be taken, it is seen
  seen_fine : (total : Both) (before : Arrival Both) (s : Step) → Fine total before.total s → sight_over net standing ls plan v total s (Some before) ≡ Some (Came (tail s.direction (leg_at net s.leg)) (room_along net standing plan s))
  seen_fine total before s f = rw ((fine_decides total before.total s).1 f) refl

  seen_not : (total : Both) (before : Arrival Both) (s : Step) → (Fine total before.total s → ⊥) → sight_over net standing ls plan v total s (Some before) ≡ None
  seen_not total before s f = elim (cases_Bool (is_joined net s.leg && eqb (head s.direction (leg_at net s.leg)) v && ltb 0 (room_along net standing plan s) && is_tight total before.total (step_cost net standing plan s))) [
    | inl e ↦ absurd (f ((fine_decides total before.total s).0 e))
    | inr e ↦ rw e refl
  ]

  -- ---- what is found of a label is what it shows
  of_link : (x : Arrival Both) (u room : ℕ) (k : Link net standing plan ls room u v x) → room ≡ room_along net standing plan k.last → 0 < room → sight_of net standing ls plan v (Some x) ≡ Some (Came u room)
  of_link x u room k e h =
      let f : Fine x.total k.before.total k.last = record { joined = k.leads.joined; ends = k.leads.ends; room = omega (arith, e, h); tight = k.tight } in
      let there : (label_at ls (tail k.last.direction (leg_at net k.last.leg))).arrival ≡ Some k.before = ap (λ w. (label_at ls w).arrival) k.leads.begins ∙ k.known in
      ap (sight_by net standing ls plan v x.total) k.by ∙ ap (sight_over net standing ls plan v x.total k.last) there ∙ seen_fine x.total k.before k.last f ∙ ap (λ w. Some (Came w (room_along net standing plan k.last))) k.leads.begins ∙ ap (λ w. Some (Came u w)) (sym e)

  no_link : (x : Arrival Both) (s : Step) → x.last ≡ Some s → ((u : ℕ) → Link net standing plan ls 1 u v x → ⊥) → sight_by net standing ls plan v x.total (Some s) ≡ None
  no_link x s e n =
      let u = tail s.direction (leg_at net s.leg) in
      elim (option_cases (label_at ls u).arrival) [
        | inl q ↦ ap (sight_over net standing ls plan v x.total s) q
        | inr q ↦
            ap (sight_over net standing ls plan v x.total s) q.1
            ∙ seen_not x.total q.0 s (λ f. n u (record { before = q.0; last = s; known = q.1; by = e; leads = record { joined = f.joined; begins = refl; ends = f.ends }; room = omega (arith, f.room); tight = f.tight }))
      ]

  none_of : (o : Option (Arrival Both)) → ((x : Arrival Both) → o ≡ Some x → ((x.last ≡ None) → ⊥) × ((u : ℕ) → Link net standing plan ls 1 u v x → ⊥)) → sight_of net standing ls plan v o ≡ None
  none_of None n = refl
  none_of (Some x) n =
      let p = n x refl in
      elim (option_cases x.last) [
        | inl e ↦ absurd (p.0 e)
        | inr q ↦ ap (sight_by net standing ls plan v x.total) q.1 ∙ no_link x q.0 q.1 p.1
      ]

  pub seen : (r : Option Sight) → Sees net standing plan ls v r → sight_at net standing ls plan v ≡ r
  seen None h = elim (cases_lt v (stations net)) [
    | inl b ↦ rw (lt-ltb v (stations net) b) (none_of (label_at ls v).arrival (λ x k. h x b k))
    | inr b ↦ rw (le-ltb v (stations net) b) refl
  ]
  seen (Some Begun) h = rw (lt-ltb v (stations net) h.0) (ap (sight_of net standing ls plan v) h.1.1 ∙ ap (sight_by net standing ls plan v h.1.0.total) h.1.2)
  seen (Some (Came u room)) h = rw (lt-ltb v (stations net) h.0) (ap (sight_of net standing ls plan v) h.2.1 ∙ of_link h.2.0 u room h.2.2 h.2.3 h.1)

  -- what is found of a step into v, whose cost and the total before it are the total of v
  pub came : (x before : Arrival Both) (s : Step) (q : Quote) → v < stations net → Known ls v x → x.last ≡ Some s → Quotes net standing plan s (Some q) → q.into ≡ v → 0 < q.room → Known ls q.from before
      → both_kind.worth x.total ≡ both_group.add (both_kind.worth before.total) (both_kind.worth q.cost) → Sees net standing plan ls v (Some (Came q.from q.room))
  came x before s q h k e p into some known sum =
      let l : Leads net s q.from v = record { joined = p.0.joined; begins = p.0.begins; ends = p.0.ends ∙ into } in
      let link : Link net standing plan ls q.room q.from v x = record { before = before; last = s; known = known; by = e; leads = l; room = omega (arith, p.1); tight = sum ∙ ap (both_group.add (both_kind.worth before.total)) p.2 } in
      (h, some, (x, k, link, p.1))

  -- what a label shows is found there
  found_step : (x : Arrival Both) (s : Step) → v < stations net → Known ls v x → x.last ≡ Some s → Sees net standing plan ls v (sight_by net standing ls plan v x.total (Some s))
  found_step x s h k e =
      let u = tail s.direction (leg_at net s.leg) in
      let only : (w : ℕ) (l : Link net standing plan ls 1 w v x) → (l.last ≡ s) × ((label_at ls u).arrival ≡ Some l.before) =
      λ w l. let same = same_Some _ _ (sym l.by ∙ e) in (same, ap (λ (r : Step). (label_at ls (tail r.direction (leg_at net r.leg))).arrival) (sym same) ∙ ap (λ z. (label_at ls z).arrival) l.leads.begins ∙ l.known) in
      elim (option_cases (label_at ls u).arrival) [
        | inl q ↦ subst (Sees net standing plan ls v) (sym (ap (sight_over net standing ls plan v x.total s) q)) (none (λ w l. none-some l.before (sym q ∙ (only w l).1)))
        | inr q ↦
            subst (Sees net standing plan ls v) (sym (ap (sight_over net standing ls plan v x.total s) q.1))
            (elim (cases_Bool (is_joined net s.leg && eqb (head s.direction (leg_at net s.leg)) v && ltb 0 (room_along net standing plan s) && is_tight x.total q.0.total (step_cost net standing plan s))) [
              | inl t ↦
                  let f = (fine_decides x.total q.0.total s).0 t in
                  subst (Sees net standing plan ls v) (sym (seen_fine x.total q.0 s f))
                  (h, f.room, (x, k, record { before = q.0; last = s; known = q.1; by = e; leads = record { joined = f.joined; begins = refl; ends = f.ends }; room = omega arith; tight = f.tight }, refl))
              | inr t ↦
                  let no : Fine x.total q.0.total s → ⊥ = λ f. both_ways _ t ((fine_decides x.total q.0.total s).1 f) in
                  subst (Sees net standing plan ls v) (sym (seen_not x.total q.0 s no))
                  (none (λ w l.
                  let o = only w l in
                  let b : l.before ≡ q.0 = same_Some _ _ (sym o.1 ∙ q.1) in
                  no (subst (λ (r : Step). Fine x.total q.0.total r) o.0 (subst (λ (y : Arrival Both). Fine x.total y.total l.last) b (record { joined = l.leads.joined; ends = l.leads.ends; room = l.room; tight = l.tight })))))
            ])
      ]
    where
      none : ((w : ℕ) → Link net standing plan ls 1 w v x → ⊥) → Sees net standing plan ls v None
      none n y b j =
          let same : x ≡ y = same_Some _ _ (sym k ∙ j) in
          subst (λ (y : Arrival Both). (y.last ≢ None) × ((w : ℕ) → Link net standing plan ls 1 w v y → ⊥)) same (λ q. none-some s (sym q ∙ e), n)

  found_label : (o : Option (Arrival Both)) → v < stations net → (label_at ls v).arrival ≡ o → Sees net standing plan ls v (sight_of net standing ls plan v o)
  found_label None h k = λ x b j. absurd (none-some x (sym k ∙ j))
  found_label (Some x) h k = elim (option_cases x.last) [
    | inl e ↦ subst (Sees net standing plan ls v) (sym (ap (sight_by net standing ls plan v x.total) e)) (h, (x, k, e))
    | inr q ↦ subst (Sees net standing plan ls v) (sym (ap (sight_by net standing ls plan v x.total) q.1)) (found_step x q.0 h k q.1)
  ]

  pub found : Sees net standing plan ls v (sight_at net standing ls plan v)
  found = elim (cases_lt v (stations net)) [
    | inl b ↦ rw (lt-ltb v (stations net) b) (found_label (label_at ls v).arrival b refl)
    | inr b ↦ rw (le-ltb v (stations net) b) (λ x h k. absurd (omega (arith, h, b)))
  ]

-- ---- the most that can be sent
module _ (net : Net) (standing : List ℕ) (ls : List (Label Both)) (plan : List ℕ) where
  -- a route is what is reached, where enough turns are left
  pub reached : (since : ℕ → ℕ) → Ordered net ls since → (b v s fuel room : ℕ) → 0 < b → Route net standing plan ls b v s → since v < fuel → b ≤ room
      → (q : Reach) × (reach_from net standing ls plan fuel v room ≡ Some q) × (q.start ≡ s) × (b ≤ q.room)
  reached since o b v s zero room some r h m = absurd (omega (arith, h))
  reached since o b v s (suc fuel) room some (begins x below k e) h m =
      (record { start = v; room = room }, ap (reach_by (reach_from net standing ls plan fuel) v room) (seen net standing ls plan v (Some Begun) (below, (x, k, e))), refl, m)
  reached since o b v s (suc fuel) room some (goes {u = u} x below k link r) h m =
      let w = room_along net standing plan link.last in
      let full : Link net standing plan ls w u v x = record { before = link.before; last = link.last; known = link.known; by = link.by; leads = link.leads; room = omega arith; tight = link.tight } in
      let e = seen net standing ls plan v (Some (Came u w)) (below, omega (arith, some, link.room), (x, k, full, refl)) in
      let d = o.back_from u v x link.last below k link.by link.leads in
      let q = reached since o b u s fuel (min room w) some r (omega (arith, d, h)) (omega (arith, m, link.room)) in
      (q.0, ap (reach_by (reach_from net standing ls plan fuel) v room) e ∙ q.1, q.2, q.3)

  -- what is reached from v is a route
  abbrev pub RouteFrom : ℕ → ℕ → Reach → Type 0
  RouteFrom v room q = (q.room ≤ room) × ((b : ℕ) → b ≤ q.room → Route net standing plan ls b v q.start)

  by_sight : (more : ℕ → ℕ → Option Reach) → ((u least : ℕ) (q : Reach) → more u least ≡ Some q → RouteFrom u least q) → (v room : ℕ) (q : Reach) (r : Option Sight) → Sees net standing plan ls v r → reach_by more v room r ≡ Some q → RouteFrom v room q
  by_sight more each v room q None s e = absurd (none-some q e)
  by_sight more each v room q (Some Begun) s e = subst (RouteFrom v room) (same_Some _ _ e) (omega arith, λ b h. begins s.1.0 s.0 s.1.1 s.1.2)
  by_sight more each v room q (Some (Came u less)) s e =
      let p = each u (min room less) q e in
      (omega (arith, p.0), λ b h. goes s.2.0 s.0 s.2.1 (link_less (omega (arith, p.0, h)) s.2.2) (p.1 b h))

  pub reaches : (fuel v room : ℕ) (q : Reach) → reach_from net standing ls plan fuel v room ≡ Some q → RouteFrom v room q
  reaches zero v room q e = absurd (none-some q e)
  reaches (suc fuel) v room q e = by_sight (reach_from net standing ls plan fuel) (reaches fuel) v room q (sight_at net standing ls plan v) (found net standing ls plan v) e

module _ (net : Net) (standing : List ℕ) (ls : List (Label Both)) (target : ℕ) (held : Contents) where
  -- the lesser of three
  lesser : (q : Reach) → reach_of net standing ls held.amounts target ≡ Some q → bikes_sent net standing ls target held ≡ spare (spare q.room (get_or held.left q.start (pos 0))) (neg_ℤ (get_or held.left target (pos 0)))
  lesser q e = ap (bikes_along held.left target) e

  can_send : (r : Option Reach) → reach_of net standing ls held.amounts target ≡ r → 0 < bikes_sent net standing ls target held → CanSend net standing ls target (bikes_sent net standing ls target held) held
  can_send None e h = let n : bikes_sent net standing ls target held ≡ 0 = ap (bikes_along held.left target) e in absurd (omega (arith, n, h))
  can_send (Some q) e h =
      let l = lesser q e in
      let p = reaches net standing ls held.amounts (stations net + 1) target 65535 q e in
      record {
        few = omega (arith, l, p.0);
        start = q.start;
        route = p.1 (bikes_sent net standing ls target held) (omega (arith, l));
        start_has = omega (arith, l);
        target_lacks = omega (arith, l);
      }

  -- by labels that a search has settled
  module _ (old : List ℕ) (f : ℕ → Bool) (z : SettledFor net standing old f ls) where
    no_more : (more : ℕ) → CanSend net standing ls target more held → more ≤ bikes_sent net standing ls target held
    no_more more c = elim (cases_lt 0 more) [
      | inl some ↦
          let q = reached net standing ls held.amounts z.since (ordered net standing old f ls z) more target c.start (stations net + 1) 65535 some c.route (omega (arith, z.early target (route_below c.route))) (omega (arith, c.few)) in
          let l = lesser q.0 q.1 in
          let has : more ≤ over (get_or held.left q.0.start (pos 0)) = subst (λ s. more ≤ over (get_or held.left s (pos 0))) (sym q.2) c.start_has in
          omega (arith, l, q.3, has, c.target_lacks)
      | inr none ↦ omega (arith, none)
    ]

    pub most_sendable : IsMostSendable net standing ls target (bikes_sent net standing ls target held) held
    most_sendable = record { can = can_send (reach_of net standing ls held.amounts target) refl; most = no_more }
