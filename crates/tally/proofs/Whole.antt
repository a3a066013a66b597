-- What is true of a run whose tallies follow one another.
use Rattle.std.proofs.Common.{◌≡◌, ℕ, zero, suc, ◌<◌, ◌≤◌, List, length, take, drop, Some, sym, refl, ap, ◌∙◌, subst, arith}
use Rattle.std.proofs.lemmas.List.{take_at}
use Rattle.records.specs.Refusals.{number, place}
use Rattle.records.specs.declared.refusal.Refusal.{Refusal}
use Rattle.listing.specs.Lists.{Ordered}
use Rattle.listing.proofs.Entering.{keeps_order}
use Rattle.tally.specs.Tallies.{Tally, short, runs, short_list, running_list}
use Rattle.tally.specs.Follows.{Papers, written, Accepts, Follows}
use Rattle.tally.specs.Model.{fed, next}
use Rattle.tally.specs.Runs.{Lent, call_at, answer_at, papers_at, amounts_at, HandsOut, Beyond, Run, Sound, BestPlan, NoPlan, WholeRun}
use Rattle.tally.specs.declared.answer.Answer.{Answer}
use Rattle.tally.specs.declared.answer.Answer.TheVariants.{Refused, Planned, Listed}
use Rattle.tally.specs.declared.call.Call.{Call}
use Rattle.tally.specs.declared.call.Call.TheVariants.{ListStations, ListRuns}
use Rattle.tally.proofs.Agreeing.{computed}
use Rattle.tally.proofs.Saying.{planned_says, refused_says, unaltered, plan_found, listed_none}
use Rattle.tally.proofs.Keeping.{sound_more}

fed_same : (x : Answer) (plan xs ys : List ℕ) → HandsOut x plan xs ys → fed x plan ≡ fed x ys
fed_same (Planned c d) plan xs ys h = ap (λ (zs : List ℕ). Some zs) (sym h)
fed_same _ plan xs ys h = refl

best_plan : (t : Tally) (call : Call) (x : Answer) (p p' : Papers) (t' : Tally) (xs ys : List ℕ) (c d : ℕ) → Follows t call x p p' t' → HandsOut x t'.plan xs ys → x ≡ Planned c d → BestPlan t ys c d p'.prices
best_plan t call x p p' t' xs ys c d F h e =
    let a = planned_says t call x c d p p' t' e F in
    let k : ys ≡ t'.plan = subst (λ (y : Answer). HandsOut y t'.plan xs ys) e h in
    subst (λ (zs : List ℕ). BestPlan t zs c d p'.prices) (sym k) (record { best = a.0.best; costs = a.0.costs; differs = a.0.differs; priced = a.0.priced })

no_plan : (t : Tally) (call : Call) (x : Answer) (p p' : Papers) (t' : Tally) (e : Refusal) → Follows t call x p p' t' → x ≡ Refused e → number e ≡ 15 → NoPlan t (take (place e) p'.numbers)
no_plan t call x p p' t' e F q n =
    let a = refused_says t call x e p p' t' q n F in
    record { none_obeys = a.1.none_obeys; is_cut = a.1.is_cut }

take_written : (new old : List ℕ) (k : ℕ) → k ≡ length new → take k (written new old) ≡ new
take_written new old k e = take_at new (drop (length new) old) k (sym e)

listed_length : {x : Answer} (k n : ℕ) → x ≡ Listed k → x ≡ Listed n → k ≡ n
listed_length k n e h = cc

station_order : (t : Tally) (call : Call) (x : Answer) (p p' : Papers) (t' : Tally) (n k m : ℕ) → Sound m t → Follows t call x p p' t' → call ≡ ListStations n → x ≡ Listed k
    → Ordered (short t.meaning) t.meaning.open_stations t.station_list (take k p'.numbers)
station_order t call x p p' t' n k m s F c e =
    let none = listed_none t call x k p p' t' e F in
    let a = subst (λ (y : Call). Accepts t y x p p' t') c (F.accepted none) in
    let q : take k p'.numbers ≡ short_list t = ap (λ (y : Papers). take k y.numbers) a.1 ∙ take_written (short_list t) p.numbers k (listed_length k _ e a.0) in
    subst (λ (ys : List ℕ). Ordered (short t.meaning) t.meaning.open_stations t.station_list ys) (sym q) (keeps_order (short t.meaning) t.meaning.open_stations t.station_list s.stations_once)

run_order : (t : Tally) (call : Call) (x : Answer) (p p' : Papers) (t' : Tally) (n k m : ℕ) → Sound m t → Follows t call x p p' t' → call ≡ ListRuns n → x ≡ Listed k
    → Ordered (runs t.plan) m t.run_list (take k p'.numbers)
run_order t call x p p' t' n k m s F c e =
    let none = listed_none t call x k p p' t' e F in
    let a = subst (λ (y : Call). Accepts t y x p p' t') c (F.accepted none) in
    let q : take k p'.numbers ≡ running_list t = ap (λ (y : Papers). take k y.numbers) a.1 ∙ take_written (running_list t) p.numbers k (listed_length k _ e a.0) in
    let o = keeps_order (runs t.plan) (length t.meaning.legs) t.run_list s.runs_once in
    subst (λ (ys : List ℕ). Ordered (runs t.plan) m t.run_list ys) (sym q) (subst (λ (z : ℕ). Ordered (runs t.plan) z t.run_list (running_list t)) s.legs_stay o)

-- every tally up to the last call made
sound_all : (m : ℕ) (first last : Tally) (calls : List Call) (count : ℕ) (answers : List Answer) (lent lent' : Lent) (tally : ℕ → Tally) → Sound m first → Run m first last calls count answers lent lent' tally
    → (i : ℕ) → i ≤ count → Sound m (tally i)
sound_all m first last calls count answers lent lent' tally s R zero h = subst (λ (x : Tally). Sound m x) (sym R.begins) s
sound_all m first last calls count answers lent lent' tally s R (suc i) h =
    let k : i < count = omega arith in
    let l : i ≤ count = omega arith in
    sound_more m (tally i) (call_at calls i) (answer_at answers i) (papers_at calls lent i) (papers_at calls lent' i) (tally (suc i))
    (sound_all m first last calls count answers lent lent' tally s R i l) (R.follows i k)

pub whole : (m : ℕ) (first last : Tally) (calls : List Call) (answers answers' : List Answer) (lent lent' : Lent) (tally : ℕ → Tally)
    → Sound m first → Run m first last calls (length calls) answers' lent lent' tally → Beyond m calls (length calls) answers answers' lent lent' → WholeRun m first last calls answers answers' lent lent'
whole m first last calls answers answers' lent lent' tally s R B =
    let sound : (i : ℕ) → i ≤ length calls → Sound m (tally i) = sound_all m first last calls (length calls) answers' lent lent' tally s R in
    record {
      tally = tally;
      run = R;
      beyond = B;
      computed = λ i h. computed (tally i) (call_at calls i) (answer_at answers' i) (papers_at calls lent i) (papers_at calls lent' i) (tally (suc i)) (R.follows i h)
          ∙ ap (next (tally i) (call_at calls i)) (fed_same (answer_at answers' i) (tally (suc i)).plan (amounts_at m calls lent i) (amounts_at m calls lent' i) (R.hands_out i h));
      sound = sound;
      refusals_alter_nothing = λ i e h q. unaltered (tally i) (call_at calls i) (answer_at answers' i) e (papers_at calls lent i) (papers_at calls lent' i) (tally (suc i)) q (R.follows i h);
      plans_are_best = λ i c d h q. best_plan (tally i) (call_at calls i) (answer_at answers' i) (papers_at calls lent i) (papers_at calls lent' i) (tally (suc i)) (amounts_at m calls lent i) (amounts_at m calls lent' i) c d (R.follows i h) (R.hands_out i h) q;
      cuts_exclude_plans = λ i e h q n. no_plan (tally i) (call_at calls i) (answer_at answers' i) (papers_at calls lent i) (papers_at calls lent' i) (tally (suc i)) e (R.follows i h) q n;
      plans_are_found = λ i l plan h q f o. plan_found (tally i) (call_at calls i) (answer_at answers' i) (papers_at calls lent i) (papers_at calls lent' i) (tally (suc i)) l plan q f o (R.follows i h);
      stations_keep_order = λ i n k h q e. station_order (tally i) (call_at calls i) (answer_at answers' i) (papers_at calls lent i) (papers_at calls lent' i) (tally (suc i)) n k m (sound i (omega (arith, h))) (R.follows i h) q e;
      runs_keep_order = λ i n k h q e. run_order (tally i) (call_at calls i) (answer_at answers' i) (papers_at calls lent i) (papers_at calls lent' i) (tally (suc i)) n k m (sound i (omega (arith, h))) (R.follows i h) q e;
    }
