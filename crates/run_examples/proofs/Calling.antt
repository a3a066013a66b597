-- What holds after a call of each kind.
use Rattle.std.proofs.Common.{◌≡◌, ℕ, ◌≤◌, cond, ◌⊎◌, ◌↔◌, List, [], ◌∷◌, length, take, drop, ℤ, Some, None, sym, refl, ap, ◌∙◌, subst, inl, inr, arith, le-ltb, length-drop}
use Rattle.records.specs.Refusals.{place}
use Rattle.records.specs.declared.leg.Mark.TheVariants.{Shut}
use Rattle.records.specs.declared.refusal.Refusal.{Refusal}
use Rattle.records.specs.declared.refusal.Refusal.TheVariants.{NoPlanObeys}
use Rattle.network.specs.Nets.{Net}
use Rattle.network.specs.Offices.{reported, remarked}
use Rattle.plans.specs.Plans.{stations, Obeys, cents, difference, CheapestThenNearest}
use Rattle.plans.specs.Cuts.{Cut}
use Rattle.plans.specs.Prices.{Prices}
use Rattle.examples.specs.Networks.{T_shut}
use Rattle.examples.specs.Examples.{OnlyBest}
use Rattle.examples.proofs.Ways.{no_way}
use Rattle.examples.proofs.Severed.{cuts}
use Rattle.tally.specs.Tallies.{Tally, with_meaning, with_plan, with_stations, short_list}
use Rattle.tally.specs.Follows.{Papers, papers, written, fault, Accepts, PlanAnswers}
use Rattle.tally.specs.declared.answer.Answer.{Answer}
use Rattle.tally.specs.declared.answer.Answer.TheVariants.{Done, Refused, Planned, Listed}
use Rattle.tally.specs.declared.call.Call.{Call}
use Rattle.tally.specs.declared.call.Call.TheVariants.{Report, Close, Plan, ListStations}
use Rattle.tally.proofs.Meeting.{when_accepted}
use Rattle.tally.proofs.Naming.{same_refused}
use Rattle.tally.proofs.Written.{parts}
use Rattle.run_examples.specs.After.{Outcome, After, AfterPlanning, AfterListing, NewPlan, CutOff, Alters, HandsOut}
use Rattle.run_examples.proofs.Passing.{fault_of, passes}
use Rattle.run_examples.proofs.Writing.{prices_entered, prices_are, taken}

-- a call that meets no fault: what is accepted is the outcome, and the run goes on from there
allowed : (t : Tally) (call : Call) (outcome : Outcome) (next : Tally → Type 0) → fault t call ≡ None
    → ((q : Papers) → (x : Answer) × (q' : Papers) × (u : Tally) × outcome x q q' u)
    → ((x : Answer) (q q' : Papers) (u : Tally) → Accepts t call x q q' u ↔ outcome x q q' u)
    → ((x : Answer) (q q' : Papers) (u : Tally) → outcome x q q' u → next u) → After t call outcome next
allowed t call outcome next e p s n = record {
  possible = λ q. let a = p q in (a.0, a.1, a.2, when_accepted t call a.0 q a.1 a.2 e ((s a.0 q a.1 a.2).1 a.3));
  exactly = λ x q q' u. (λ F. (s x q q' u).0 (F.accepted e), λ o. when_accepted t call x q q' u e ((s x q q' u).1 o));
  goes_on = λ x q q' u F. n x q q' u ((s x q q' u).0 (F.accepted e));
}

-- ---- closings and reports
altered : (t : Tally) (call : Call) (made net : Net) (next : Tally → Type 0) → fault t call ≡ None
    → ((x : Answer) (q q' : Papers) (u : Tally) → Accepts t call x q q' u ↔ ((x ≡ Done) × (q' ≡ q) × (u ≡ with_meaning t made)))
    → made ≡ net → next (with_meaning t net) → After t call (Alters t net) next
altered t call made net next e s m h =
    allowed t call (Alters t net) next e
    (λ q. (Done, q, with_meaning t net, record { answered = refl; slices_stay = refl; becomes = refl }))
    (λ x q q' u. (
      λ a. let b = (s x q q' u).0 a in record { answered = b.0; slices_stay = b.1; becomes = b.2 ∙ ap (with_meaning t) m },
      λ o. (s x q q' u).1 (o.answered, o.slices_stay, o.becomes ∙ ap (with_meaning t) (sym m)),
    ))
    (λ x q q' u o. subst next (sym o.becomes) h)

pub after_closing : (t : Tally) (k : ℕ) (net : Net) (next : Tally → Type 0) → fault t (Close k) ≡ None → remarked t.meaning k Shut ≡ net → next (with_meaning t net) → After t (Close k) (Alters t net) next
after_closing t k net next e m h = altered t (Close k) (remarked t.meaning k Shut) net next e (λ x q q' u. (λ a. a, λ a. a)) m h

pub after_report : (t : Tally) (s : ℕ) (b : ℤ) (net : Net) (next : Tally → Type 0) → fault t (Report s b) ≡ None → reported t.meaning s b ≡ net → next (with_meaning t net) → After t (Report s b) (Alters t net) next
after_report t s b net next e m h = altered t (Report s b) (reported t.meaning s b) net next e (λ x q q' u. (λ a. a, λ a. a)) m h

-- ---- lists
abbrev handed : Papers → List ℕ → Papers
handed q vs = papers q.prices (written vs q.numbers)

pub after_listing : (t : Tally) (vs : List ℕ) (next : Tally → Type 0) → short_list t ≡ vs → next (with_stations t vs) → AfterListing t (HandsOut t vs) next
after_listing t vs next m h n l =
    allowed t (ListStations n) (HandsOut t vs) next (ap (λ b. cond b (Some (11, 0)) None) (le-ltb n t.meaning.open_stations l))
    (λ q. (Listed (length vs), handed q vs, with_stations t vs, record { answered = refl; handed_out = refl; remembered = refl }))
    (λ x q q' u. (
      λ a. record { answered = a.0 ∙ ap (λ (ws : List ℕ). Listed (length ws)) m; handed_out = a.1 ∙ ap (handed q) m; remembered = a.2 ∙ ap (with_stations t) m },
      λ o. (o.answered ∙ ap (λ (ws : List ℕ). Listed (length ws)) (sym m), o.handed_out ∙ ap (handed q) (sym m), o.remembered ∙ ap (with_stations t) (sym m)),
    ))
    (λ x q q' u o. subst next (sym o.remembered) h)

-- ---- plannings that are accepted
new_plan : (t : Tally) (plan : List ℕ) (c d : ℕ) (x : Answer) (q q' : Papers) (u : Tally) → OnlyBest t.meaning t.plan plan c d → PlanAnswers t x q q' u → NewPlan t plan c d x q q' u
new_plan t plan c d (Planned k e) q q' u b a =
    let i : u.plan ≡ plan = (b.exactly u.plan).0 a.0.best in
    let f : k ≡ c = a.0.costs ∙ (ap (cents t.meaning) i ∙ b.costs) in
    let g : e ≡ d = a.0.differs ∙ (ap (difference t.meaning t.plan) i ∙ b.differs) in
    record {
      answered = cc;
      stands = a.1 ∙ ap (with_plan t) i;
      priced = subst (λ p. Prices t.meaning p q'.prices) i a.0.priced;
      prices_beyond = a.0.prices_beyond;
      prices_as_long = a.0.prices_as_long;
      cut_stays = a.0.cut_stays;
    }
new_plan t plan c d (Refused e) q q' u b a = absurd (a.1.none_obeys plan ((b.exactly plan).1 refl).obeys)
new_plan t plan c d _ q q' u b a = absurd a

accepted : (t : Tally) (plan : List ℕ) (c d : ℕ) (q q' : Papers) → OnlyBest t.meaning t.plan plan c d → Prices t.meaning plan q'.prices
    → drop (stations t.meaning) q'.prices ≡ drop (stations t.meaning) q.prices → (stations t.meaning ≤ length q.prices → length q'.prices ≡ length q.prices) → q'.numbers ≡ q.numbers
    → PlanAnswers t (Planned c d) q q' (with_plan t plan)
accepted t plan c d q q' b f g l h =
    (record { best = (b.exactly plan).1 refl; costs = sym b.costs; differs = sym b.differs; priced = f; prices_beyond = g; prices_as_long = l; cut_stays = h }, refl)

planned : (t : Tally) (plan : List ℕ) (c d : ℕ) (q : Papers) → OnlyBest t.meaning t.plan plan c d → (q' : Papers) × PlanAnswers t (Planned c d) q q' (with_plan t plan)
planned t plan c d q b =
    let best : CheapestThenNearest t.meaning t.plan plan = (b.exactly plan).1 refl in
    let e = prices_entered t.meaning t.plan plan q.prices best in
    (papers e.after q.numbers, accepted t plan c d q (papers e.after q.numbers) b (prices_are t.meaning t.plan plan q.prices best e) e.beyond e.as_long refl)

-- an answer and a tally for which others were put
replaced : (t : Tally) (x y : Answer) (q q' : Papers) (u v : Tally) → x ≡ y → u ≡ v → PlanAnswers t y q q' v → PlanAnswers t x q q' u
replaced t x y q q' u v e f a = subst (λ (z : Answer). PlanAnswers t z q q' u) (sym e) (subst (λ (w : Tally). PlanAnswers t y q q' w) (sym f) a)

pub after_planning : (t : Tally) (plan : List ℕ) (c d : ℕ) (next : Tally → Type 0) → fault_of t.meaning ≡ None → OnlyBest t.meaning t.plan plan c d
    → next (with_plan t plan) → AfterPlanning t (NewPlan t plan c d) next
after_planning t plan c d next m b h l hp hk hs hl =
    allowed t (Plan l) (NewPlan t plan c d) next (passes t l m hp hk hs hl)
    (λ q. let a = planned t plan c d q b in (Planned c d, a.0, with_plan t plan, new_plan t plan c d (Planned c d) q a.0 (with_plan t plan) b a.1))
    (λ x q q' u. (
      new_plan t plan c d x q q' u b,
      λ o. replaced t x (Planned c d) q q' u (with_plan t plan) o.answered o.stands (accepted t plan c d q q' b o.priced o.prices_beyond o.prices_as_long o.cut_stays),
    ))
    (λ x q q' u o. subst next (sym o.stands) h)

-- an outcome that says more, where that follows
pub with_more : (t : Tally) (outcome other : Answer → Papers → Papers → Tally → Type 0) (next : Tally → Type 0) → ((x : Answer) (q q' : Papers) (u : Tally) → outcome x q q' u ↔ other x q q' u)
    → AfterPlanning t outcome next → AfterPlanning t other next
with_more t outcome other next f a l hp hk hs hl =
    let r = a l hp hk hs hl in
    record {
      possible = r.possible;
      exactly = λ x q q' u. (λ F. (f x q q' u).0 ((r.exactly x q q' u).0 F), λ o. (r.exactly x q q' u).1 ((f x q q' u).1 o));
      goes_on = r.goes_on;
    }

-- ---- plannings that are refused by a cut
by_two : (t : Tally) (e : Refusal) (q q' : Papers) (u : Tally) → t.meaning ≡ T_shut → PlanAnswers t (Refused e) q q' u → Cut T_shut (take (place e) q'.numbers) → CutOff t (Refused e) q q' u
by_two t e q q' u m a k = go ((cuts (take (place e) q'.numbers)).0 k)
  where
    named : place e ≡ 2 → Refused e ≡ Refused (NoPlanObeys 2)
    named p = let i = a.0 in same_refused (Refused e) (Refused (NoPlanObeys 2)) (15, 2) (omega arith, omega arith) (rw (i, p) refl) refl

    two : (vs : List ℕ) → length vs ≡ 2 → take (place e) q'.numbers ≡ vs → (Refused e ≡ Refused (NoPlanObeys 2)) × (q'.numbers ≡ written vs q.numbers)
    two vs l p =
        let i : place e ≡ length vs = taken (place e) vs q'.numbers a.1.room p in
        (named (i ∙ l), parts (place e) vs q.numbers q'.numbers p a.1.cut_beyond i)

    go : (take (place e) q'.numbers ≡ 0 ∷ 1 ∷ []) ⊎ (take (place e) q'.numbers ≡ 1 ∷ 0 ∷ []) → CutOff t (Refused e) q q' u
    go (inl p) = let r = two (0 ∷ 1 ∷ []) refl p in record { answered = r.0; cut = inl r.1; prices_stay = a.1.prices_stay; tally_stays = a.2 }
    go (inr p) = let r = two (1 ∷ 0 ∷ []) refl p in record { answered = r.0; cut = inr r.1; prices_stay = a.1.prices_stay; tally_stays = a.2 }

cut_off : (t : Tally) (x : Answer) (q q' : Papers) (u : Tally) → t.meaning ≡ T_shut → PlanAnswers t x q q' u → CutOff t x q q' u
cut_off t (Refused e) q q' u m a = by_two t e q q' u m a (subst (λ net. Cut net (take (place e) q'.numbers)) m a.1.is_cut)
cut_off t (Planned c d) q q' u m a = absurd (no_way u.plan (subst (λ net. Obeys net u.plan) m a.0.best.obeys))
cut_off t _ q q' u m a = absurd a

refused : (t : Tally) (a b : ℕ) (q q' : Papers) → t.meaning ≡ T_shut → Cut T_shut (a ∷ b ∷ []) → q'.numbers ≡ written (a ∷ b ∷ []) q.numbers → q'.prices ≡ q.prices → PlanAnswers t (Refused (NoPlanObeys 2)) q q' t
refused t a b q q' m k f g = (
  refl,
  record {
    none_obeys = λ p o. no_way p (subst (λ net. Obeys net p) m o);
    room = rw f (omega arith);
    is_cut = rw f (subst (λ net. Cut net (a ∷ b ∷ [])) (sym m) k);
    cut_beyond = rw f refl;
    cut_as_long = λ h. rw f (omega (arith, h, length-drop 2 q.numbers));
    prices_stay = g;
  },
  refl,
)

either : (t : Tally) (q q' : Papers) → t.meaning ≡ T_shut → (q'.numbers ≡ written (0 ∷ 1 ∷ []) q.numbers) ⊎ (q'.numbers ≡ written (1 ∷ 0 ∷ []) q.numbers) → q'.prices ≡ q.prices
    → PlanAnswers t (Refused (NoPlanObeys 2)) q q' t
either t q q' m (inl f) g = refused t 0 1 q q' m ((cuts (0 ∷ 1 ∷ [])).1 (inl refl)) f g
either t q q' m (inr f) g = refused t 1 0 q q' m ((cuts (1 ∷ 0 ∷ [])).1 (inr refl)) f g

pub after_cut : (t : Tally) (next : Tally → Type 0) → t.meaning ≡ T_shut → next t → AfterPlanning t (CutOff t) next
after_cut t next m h l hp hk hs hl =
    let no : Answer = Refused (NoPlanObeys 2) in
    allowed t (Plan l) (CutOff t) next (passes t l (ap fault_of m) hp hk hs hl)
    (λ q. (no, handed q (0 ∷ 1 ∷ []), t, record { answered = refl; cut = inl refl; prices_stay = refl; tally_stays = refl }))
    (λ x q q' u. (cut_off t x q q' u m, λ o. replaced t x no q q' u t o.answered o.tally_stays (either t q q' m o.cut o.prices_stay)))
    (λ x q q' u o. subst next (sym o.tally_stays) h)
