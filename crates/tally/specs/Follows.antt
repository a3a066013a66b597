-- What each call answers and leaves.
--   Papers     the slices that are handed in with a call
--   papers     the slices by themselves
--   written    a slice whose first entries are written and whose others stay
--   fault      the refusal that a call meets, by number and place; of a planning, before the search
--   PlanAnswers   what a planning that meets no fault answers and leaves
--   Accepts    what a call that meets no fault answers and leaves
--   Follows    what a call answers and leaves
-- A prime marks what slices and the tally are afterwards.
use Rattle.std.specs.Prelude.{◌≡◌, ℕ, cond, List, ◌++◌, length, drop, ℤ, Some, None, Option, nat_lt}
use Rattle.records.specs.Refusals.{number, place}
use Rattle.records.specs.declared.leg.Mark.TheVariants.{Open, Shut}
use Rattle.network.specs.Offices.{report_fault, mark_fault, reported, remarked}
use Rattle.planning_rules.specs.Checks.{planning_fault}
use Rattle.planning_rules.specs.Answers.{Accepted, Impossible}
use Rattle.tally.specs.Tallies.{Tally, with_meaning, with_plan, with_stations, with_runs, short_list, running_list, standing}
use Rattle.tally.specs.Answers.{refusal_of}
use Rattle.tally.specs.declared.answer.Answer.{Answer}
use Rattle.tally.specs.declared.answer.Answer.TheVariants.{Done, Refused, Planned, Listed, Amount}
use Rattle.tally.specs.declared.call.Call.{Call}
use Rattle.tally.specs.declared.call.Call.TheVariants.{Report, Close, Reopen, Plan, ListStations, ListRuns, Read}

-- `numbers` is the slice for the cut of a planning or for a list
pub record Papers : Type 0 where
  pub prices : List ℤ
  pub numbers : List ℕ

abbrev pub papers : List ℤ → List ℕ → Papers
papers ps ns = record { prices = ps; numbers = ns }

abbrev pub written : List ℕ → List ℕ → List ℕ
written new old = new ++ drop (length new) old

-- by number and place, as callers are told refusals and as the faults of an office are defined:
-- 7 or 8 of a report, 9 or 10 of a closing or reopening, 11 to 14 of a planning, 11 of a listing whose slice is shorter
-- than the open stations, or the legs, are many, none of a reading
abbrev pub fault : Tally → Call → Option (ℕ × ℕ)
fault t (Report s b) = report_fault t.meaning.open_stations s b
fault t (Close k) = mark_fault t.meaning.road_legs t.meaning.legs k Shut
fault t (Reopen k) = mark_fault t.meaning.road_legs t.meaning.legs k Open
fault t (Plan l) = planning_fault t.meaning l
fault t (ListStations n) = cond (nat_lt n t.meaning.open_stations) (Some (11, 0)) None
fault t (ListRuns n) = cond (nat_lt n (length t.meaning.legs)) (Some (11, 0)) None
fault t (Read k) = None

-- accepted with the best plan, which then stands, or refused by 15 where no plan obeys, with a cut of as many stations as the
-- place says; it has no other answer
abbrev pub PlanAnswers : Tally → Answer → Papers → Papers → Tally → Type 0
PlanAnswers t (Planned c d) p p' t' =
    Accepted t.meaning t.plan t'.plan c d p.prices p'.prices p.numbers p'.numbers × (t' ≡ with_plan t t'.plan)
PlanAnswers t (Refused e) p p' t' =
    (number e ≡ 15) × Impossible t.meaning (place e) p.prices p'.prices p.numbers p'.numbers × (t' ≡ t)
PlanAnswers t _ p p' t' = ⊥

-- a list is handed out in the first entries of its slice, and kept
abbrev pub Accepts : Tally → Call → Answer → Papers → Papers → Tally → Type 0
Accepts t (Report s b) answer p p' t' = (answer ≡ Done) × (p' ≡ p) × (t' ≡ with_meaning t (reported t.meaning s b))
Accepts t (Close k) answer p p' t' = (answer ≡ Done) × (p' ≡ p) × (t' ≡ with_meaning t (remarked t.meaning k Shut))
Accepts t (Reopen k) answer p p' t' = (answer ≡ Done) × (p' ≡ p) × (t' ≡ with_meaning t (remarked t.meaning k Open))
Accepts t (Plan l) answer p p' t' = PlanAnswers t answer p p' t'
Accepts t (ListStations n) answer p p' t' =
    (answer ≡ Listed (length (short_list t))) × (p' ≡ papers p.prices (written (short_list t) p.numbers)) × (t' ≡ with_stations t (short_list t))
Accepts t (ListRuns n) answer p p' t' =
    (answer ≡ Listed (length (running_list t))) × (p' ≡ papers p.prices (written (running_list t) p.numbers)) × (t' ≡ with_runs t (running_list t))
Accepts t (Read k) answer p p' t' = (answer ≡ Amount (standing t k)) × (p' ≡ p) × (t' ≡ t)

-- a call that meets a fault is refused by it, with nothing altered
pub record Follows (t : Tally) (call : Call) (answer : Answer) (p p' : Papers) (t' : Tally) : Type 0 where
  pub refused : (f : ℕ × ℕ) → fault t call ≡ Some f → (refusal_of answer ≡ Some f) × (p' ≡ p) × (t' ≡ t)
  pub accepted : fault t call ≡ None → Accepts t call answer p p' t'
