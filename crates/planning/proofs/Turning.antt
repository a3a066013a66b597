-- One turn: what a search from the stations with bikes over shows, and what the sendings after it leave.
use Rattle.std.specs.Bool.{then_some}
use Rattle.std.proofs.Common.{◌≡◌, ℕ, zero, suc, ◌<◌, Bool, true, false, T, ◌⊎◌, List, get_or, ltb, ℤ, pos, negsuc, ◌<ℤ◌, Some, None, Option, sym, refl, ap, ◌∙◌, subst, inl, inr, arith}
use Rattle.std.proofs.lemmas.Bool.{ltb-true, ltb-false}
use borrow.Author.Differences.{ints}
use lib.Signed.{lt_z}
use Rattle.network.specs.Nets.{Net}
use Rattle.theory.specs.Walks.{step, RoundTrip}
use Rattle.plans.specs.Plans.{stations, sum_below, EndsBelow}
use Rattle.plans.specs.Residuals.{BothStep, both_group, Certifies}
use Rattle.plans.specs.Cuts.{Cut, left_over}
use Rattle.certificates.specs.Totals.{over}
use Rattle.certificates.proofs.Raised
use Rattle.costs.specs.Kinds.{both_kind}
use Rattle.steps.specs.Fees.{paid, fee_both, both_worth}
use Rattle.steps.proofs.Paying.{both_steps}
use Rattle.search.specs.Labels.{label_at}
use Rattle.search.specs.Searches.{Answer, From, StepOf}
use Rattle.search.specs.Searches.{Enough, TooShort}
use Rattle.search.specs.declared.chains.Chains.{Chains}
use Rattle.search.specs.declared.label.Arrival.{Arrival}
use Rattle.search.specs.declared.label.Label.{Label}
use Rattle.search.specs.declared.outcome.Outcome.{Outcome}
use Rattle.search.specs.declared.outcome.Outcome.TheVariants.{Settled, RoundTrip as Trip}
use Rattle.search.proofs.Optional.{option_cases}
use Rattle.search.proofs.Stepping.{ends}
use Rattle.planning.specs.declared.draft.Draft.{Draft}
use Rattle.planning.specs.Sends.{Both, SettledFor, Agrees}
use Rattle.planning.specs.Reached.{reached, reached_below}
use Rattle.planning_rules.specs.Answers.{the_plan}
use Rattle.planning.specs.States.{Prepared, Underway, Marks, Marking, SendsAll, Turned}
use Rattle.planning.specs.declared.tables.Tables.{Tables}
use Rattle.planning.proofs.Showing.{there, shows_cut}

-- the total of an arrival, zero where there is none
total_of : Option (Arrival Both) → ℤ × ℤ
total_of None = (pos 0, pos 0)
total_of (Some x) = both_kind.worth x.total

-- where a sum is above zero, a part is
some_part : (m : ℕ) (g : ℕ → ℕ) → 0 < sum_below m g → (w : ℕ) × (w < m) × (0 < g w)
some_part zero g h = absurd (omega arith)
some_part (suc m) g h =
    elim (above (g m)) [ inl e ↦ let q = some_part m g (omega (arith, h, e)) in (q.0, omega (arith, q.1), q.2) | inr p ↦ (m, omega arith, p) ]
  where
    above : (k : ℕ) → (k ≡ 0) ⊎ (0 < k)
    above zero = inl refl
    above (suc k) = inr (omega arith)

over_zero : (z : ℤ) → 0 < over z → pos 0 <ℤ z
over_zero (pos a) h = omega (arith, ints, h)
over_zero (negsuc a) h = absurd (omega (arith, h))

above_zero : (z : ℤ) → lt_z (pos 0) z ≡ true → pos 0 <ℤ z
above_zero z e = record { lt = subst T (sym e) tt }

zero_below : (z : ℤ) → pos 0 <ℤ z → lt_z (pos 0) z ≡ true
zero_below z p = holds (lt_z (pos 0) z) p.lt
  where
    holds : (b : Bool) → T b → b ≡ true
    holds true t = refl
    holds false t = absurd t

module _ (net : Net) (standing : List ℕ) (draft : Draft) (o : ℕ) (u : Underway net standing draft o) where
  abbrev plan : List ℕ
  plan = the_plan net draft.amounts.now

  module _ (f : ℕ → Bool) (ls : List (Label Both)) where
    no_trip : Answer both_kind net plan (fee_both standing) f Trip ls → ⊥
    no_trip r = Raised.no_round_trip net standing plan u.potential u.certified (subst (λ S. RoundTrip both_group S) (both_steps net standing plan) r.trip)

    -- the plan's steps, as the search sees them
    seen : (a b : ℕ) (c : ℤ × ℤ) → BothStep net standing plan a b c → StepOf both_kind net plan (fee_both standing) a b c
    seen a b c s = subst (λ S. S a b c) (sym (both_steps net standing plan)) s

    module _ (z : SettledFor net standing plan f ls) where
      held : (a b : ℕ) (c : ℤ × ℤ) → BothStep net standing plan a b c → reached ls a ≡ true → (reached ls b ≡ true) × both_group.le (total_of (label_at ls b).arrival) (both_group.add (total_of (label_at ls a).arrival) c)
      unfolding total_of
      held a b c s r =
          let e = ends net plan (paid (both_worth standing) net plan) a b c (seen a b c s) in
          let x = there (label_at ls a).arrival r in
          let w = step (z.least a x.0 e.0 x.1).attained (seen a b c s) in
          elim (option_cases (label_at ls b).arrival) [
            | inl n ↦ absurd (z.unreached b e.1 n _ _ w)
            | inr y ↦ (rw y.1 refl, rw (y.1, x.1) ((z.least b y.0 e.1 y.1).least _ _ w))
          ]

      pub agreeing : (π : ℕ → ℤ × ℤ) × Certifies net standing plan π × Agrees net ls π
      unfolding total_of
      agreeing =
          let p = Raised.extended net standing plan u.potential (reached ls) (λ v. total_of (label_at ls v).arrival) u.certified held in
          (p.0, p.1, λ v x h k. p.2 v (rw k refl) ∙ ap total_of k)

  module _ (marks : List Bool) (m : Marks (stations net) draft.left.now marks) where
    -- the marked stations
    abbrev marked : ℕ → Bool
    marked v = get_or marks v false

    starts_over : (v : ℕ) → From net marked v → pos 0 <ℤ left_over net plan v
    starts_over v s = subst (λ z. pos 0 <ℤ z) (u.tracks.left_overs v s.0) (above_zero (get_or draft.left.now v (pos 0)) (sym (m v s.0) ∙ s.1))

    over_marked : (v : ℕ) → v < stations net → pos 0 <ℤ left_over net plan v → marked v ≡ true
    over_marked v h p = m v h ∙ zero_below (get_or draft.left.now v (pos 0)) (subst (λ z. pos 0 <ℤ z) (sym (u.tracks.left_overs v h)) p)

    -- by whether fewer bikes are over
    pub settled : (tables : Tables) (r : ℕ) (z : SettledFor net standing plan marked tables.labels.now) → EndsBelow net → 0 < o → SendsAll net standing tables.labels.now o r draft tables.draft → Turned net standing o (then_some (ltb r o) r) tables
    settled tables r z e some all =
        let ls = tables.labels.now in
        let s = all marked z starts_over u.tracks u.over_all in
        let a = agreeing marked ls z in
        let w = some_part (stations net) (λ v. over (left_over net plan v)) (omega (arith, some, u.over_all)) in
        let q = over_zero (left_over net plan w.0) w.2 in
        let cut : r ≡ o → Cut net (reached_below ls (stations net)) =
        λ n.
        shows_cut both_kind net plan (fee_both standing) marked ls z e u.tracks.fits (λ v h t. let x = there (label_at ls v).arrival t in (s.still n).1 v x.0 h x.1) w.0 w.1
        (over_marked w.0 w.1 q) q
        in
        answered (ltb r o) (λ h. (record { tracks = s.lessened.tracks; over_all = s.lessened.over_all; potential = a.0; certified = s.lessened.certified a.0 a.2 a.1 }, ltb-true r o h))
        (λ h. cut (omega (arith, ltb-false r o h, s.lessened.fewer)))
      where
        answered : (b : Bool) → (b ≡ true → Turned net standing o (Some r) tables) → (b ≡ false → Turned net standing o None tables) → Turned net standing o (then_some b r) tables
        answered true fewer same = fewer refl
        answered false fewer same = same refl

-- a turn in the tables of a planning
module _ (net : Net) (standing : List ℕ) (before : Tables) (o : ℕ) (u : Underway net standing before.draft o) (ready : Prepared net before) (sent : List ℕ) (e : sent ≡ the_plan net before.draft.amounts.now) (marks : List Bool) where
  abbrev starts : ℕ → Bool
  starts v = get_or marks v false

  abbrev sought : Outcome → List (Label Both) → Type 0
  sought answer ls = Answer both_kind net sent (fee_both standing) starts answer ls

  pub turned : (r : ℕ) (answer : Outcome) → 0 < o → Marking before.draft.left.now before.marks.now marks → (tables : Tables) → sought answer tables.labels.now → SendsAll net standing tables.labels.now o r before.draft tables.draft → Turned net standing o (then_some (ltb r o) r) tables
  turned r Settled some m tables z all =
      let marked : Marks (stations net) before.draft.left.now marks = λ v h. m.1 v (omega (arith, h, ready.marks)) in
      let z' : SettledFor net standing (the_plan net before.draft.amounts.now) starts tables.labels.now = rw e at z in
      settled net standing before.draft o u marks marked tables r z' ready.ends_below some all
  turned r Trip some m tables z all =
      let z' : Answer both_kind net (the_plan net before.draft.amounts.now) (fee_both standing) starts Trip tables.labels.now = rw e at z in
      absurd (no_trip net standing before.draft o u starts tables.labels.now z')

-- tables that suffice are not too short
pub never_short : {C : Type 0} (net : Net) (ls : List (Label C)) (chains : Chains) → Enough net ls chains → TooShort net ls chains → ⊥
never_short net ls chains e (inl a) = omega (arith, a, e.0)
never_short net ls chains e (inr (inl a)) = omega (arith, a, e.1)
never_short net ls chains e (inr (inr a)) = omega (arith, a, e.2)
