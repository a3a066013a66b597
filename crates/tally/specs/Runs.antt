-- Whole runs of calls.
--   Lent              the memory that is lent to a run for what its calls hand out
--   call_at, answer_at   a call and an answer by their place
--   prices_long, numbers_long, amounts_long   how many entries a call takes
--   from              where the entries of a call begin
--   part              so many entries from a place on
--   papers_at         the slices of a call, by its place
--   amounts_at        the amounts handed out with a planning, by its place
--   HandsOut          the amounts handed out after a call
--   Makes             one call, with entries of the lent memory from given places on
--   Beyond            what a run leaves alone
--   Run               the tallies of a run, from call to call
--   Sound             what holds of every tally of a run
--   BestPlan          what an accepted planning found
--   NoPlan            what a planning found that is refused for want of a plan
--   WholeRun          what is true of a run
use Rattle.std.specs.Prelude.{◌≡◌, ℕ, suc, ◌+◌, ◌<◌, ◌≤◌, List, length, take, drop, ℤ, pos, None, slice_index_or}
use Rattle.records.specs.Refusals.{number, place}
use Rattle.records.specs.declared.refusal.Refusal.{Refusal}
use Rattle.theory.specs.Walks.{Distinct}
use Rattle.plans.specs.Plans.{sum_below, Obeys, cents, difference, CheapestThenNearest}
use Rattle.plans.specs.Cuts.{Cut}
use Rattle.plans.specs.Prices.{Prices}
use Rattle.planning_rules.specs.declared.lengths.Lengths.{Lengths}
use Rattle.listing.specs.Lists.{Ordered}
use Rattle.tally.specs.Tallies.{Tally, short, runs}
use Rattle.tally.specs.Answers.{refusal_of}
use Rattle.tally.specs.Follows.{Papers, papers, fault, Follows}
use Rattle.tally.specs.Model.{fed, next}
use Rattle.tally.specs.declared.answer.Answer.{Answer}
use Rattle.tally.specs.declared.answer.Answer.TheVariants.{Done, Refused, Planned, Listed}
use Rattle.tally.specs.declared.call.Call.{Call}
use Rattle.tally.specs.declared.call.Call.TheVariants.{Report, Plan, ListStations, ListRuns}

-- for prices, for cuts and lists, and for the amounts of new plans
pub record Lent : Type 0 where
  pub prices : List ℤ
  pub numbers : List ℕ
  pub amounts : List ℕ

abbrev pub call_at : List Call → ℕ → Call
call_at calls i = slice_index_or calls i (Report 0 (pos 0))

abbrev pub answer_at : List Answer → ℕ → Answer
answer_at answers i = slice_index_or answers i Done

abbrev pub prices_long : Call → ℕ
prices_long (Plan l) = l.prices
prices_long _ = 0

-- a cut or a list
abbrev pub numbers_long : Call → ℕ
numbers_long (Plan l) = l.cut
numbers_long (ListStations n) = n
numbers_long (ListRuns n) = n
numbers_long _ = 0

-- one for each of m legs
abbrev pub amounts_long : ℕ → Call → ℕ
amounts_long m (Plan l) = m
amounts_long m _ = 0

-- behind those of the calls before it
abbrev pub from : (Call → ℕ) → List Call → ℕ → ℕ
from long calls i = sum_below i (λ k. long (call_at calls k))

abbrev pub part : {X : Type 0} → (Call → ℕ) → List Call → List X → ℕ → List X
part long calls xs i = take (long (call_at calls i)) (drop (from long calls i) xs)

abbrev pub papers_at : List Call → Lent → ℕ → Papers
papers_at calls lent i = papers (part prices_long calls lent.prices i) (part numbers_long calls lent.numbers i)

abbrev pub amounts_at : ℕ → List Call → Lent → ℕ → List ℕ
amounts_at m calls lent i = part (amounts_long m) calls lent.amounts i

-- after an accepted planning they are the plan that stands then, else they stay
abbrev pub HandsOut : Answer → List ℕ → List ℕ → List ℕ → Type 0
HandsOut (Planned c d) plan amounts amounts' = amounts' ≡ plan
HandsOut _ plan amounts amounts' = amounts' ≡ amounts

-- its prices begin at p, its numbers at q and its amounts at s; all other entries stay
pub record Makes (m : ℕ) (call : Call) (answer : Answer) (t t' : Tally) (p q s : ℕ) (lent lent' : Lent) : Type 0 where
  pub follows : Follows t call answer (papers (take (prices_long call) (drop p lent.prices)) (take (numbers_long call) (drop q lent.numbers)))
      (papers (take (prices_long call) (drop p lent'.prices)) (take (numbers_long call) (drop q lent'.numbers))) t'
  pub hands_out : HandsOut answer t'.plan (take (amounts_long m call) (drop s lent.amounts)) (take (amounts_long m call) (drop s lent'.amounts))
  pub prices_before : take p lent'.prices ≡ take p lent.prices
  pub numbers_before : take q lent'.numbers ≡ take q lent.numbers
  pub amounts_before : take s lent'.amounts ≡ take s lent.amounts
  pub prices_beyond : drop (p + prices_long call) lent'.prices ≡ drop (p + prices_long call) lent.prices
  pub numbers_beyond : drop (q + numbers_long call) lent'.numbers ≡ drop (q + numbers_long call) lent.numbers
  pub amounts_beyond : drop (s + amounts_long m call) lent'.amounts ≡ drop (s + amounts_long m call) lent.amounts

-- entries beyond those that the first `count` calls take stay
pub record Beyond (m : ℕ) (calls : List Call) (count : ℕ) (answers answers' : List Answer) (lent lent' : Lent) : Type 0 where
  pub answers_stay : drop count answers' ≡ drop count answers
  pub prices_stay : drop (from prices_long calls count) lent'.prices ≡ drop (from prices_long calls count) lent.prices
  pub numbers_stay : drop (from numbers_long calls count) lent'.numbers ≡ drop (from numbers_long calls count) lent.numbers
  pub amounts_stay : drop (from (amounts_long m) calls count) lent'.amounts ≡ drop (from (amounts_long m) calls count) lent.amounts

-- `tally i` is the tally before call i, m the count of legs; of the first `count` calls
pub record Run (m : ℕ) (first last : Tally) (calls : List Call) (count : ℕ) (answers : List Answer) (lent lent' : Lent) (tally : ℕ → Tally) : Type 0 where
  pub begins : tally 0 ≡ first
  pub ends : tally count ≡ last
  pub follows : (i : ℕ) → i < count → Follows (tally i) (call_at calls i) (answer_at answers i) (papers_at calls lent i) (papers_at calls lent' i) (tally (suc i))
  pub hands_out : (i : ℕ) → i < count → HandsOut (answer_at answers i) (tally (suc i)).plan (amounts_at m calls lent i) (amounts_at m calls lent' i)

-- the plan has one amount for each of m legs, and no list names a number twice
pub record Sound (m : ℕ) (t : Tally) : Type 0 where
  pub legs_stay : length t.meaning.legs ≡ m
  pub one_each : length t.plan ≡ m
  pub stations_once : Distinct t.station_list
  pub runs_once : Distinct t.run_list

-- the amounts are the best plan from the tally before, at c cents and at the difference d from the plan before, and the prices are those under it
pub record BestPlan (t : Tally) (amounts : List ℕ) (c d : ℕ) (prices : List ℤ) : Type 0 where
  pub best : CheapestThenNearest t.meaning t.plan amounts
  pub costs : c ≡ cents t.meaning amounts
  pub differs : d ≡ difference t.meaning t.plan amounts
  pub priced : Prices t.meaning amounts prices

-- no plan obeys, and the stations are a cut
pub record NoPlan (t : Tally) (stations : List ℕ) : Type 0 where
  pub none_obeys : (plan : List ℕ) → Obeys t.meaning plan → ⊥
  pub is_cut : Cut t.meaning stations

-- the tallies, the first and the last; each follows the one before it and is computed from it; and of every call: a refused one
-- leaves the tally as it was; an accepted planning found the best plan, one refused by 15 a cut, and one that meets no fault is
-- accepted where a plan obeys; a list names each of its sort once and no other, first those of the last list of that sort
-- in their order there, then the others by rising number
pub record WholeRun (m : ℕ) (first last : Tally) (calls : List Call) (answers answers' : List Answer) (lent lent' : Lent) : Type 0 where
  pub tally : ℕ → Tally
  pub run : Run m first last calls (length calls) answers' lent lent' tally
  pub beyond : Beyond m calls (length calls) answers answers' lent lent'
  pub computed : (i : ℕ) → i < length calls → tally (suc i) ≡ next (tally i) (call_at calls i) (fed (answer_at answers' i) (amounts_at m calls lent' i))
  pub sound : (i : ℕ) → i ≤ length calls → Sound m (tally i)
  pub refusals_alter_nothing : (i : ℕ) (e : Refusal) → i < length calls → answer_at answers' i ≡ Refused e → tally (suc i) ≡ tally i
  pub plans_are_best : (i c d : ℕ) → i < length calls → answer_at answers' i ≡ Planned c d → BestPlan (tally i) (amounts_at m calls lent' i) c d (papers_at calls lent' i).prices
  pub cuts_exclude_plans : (i : ℕ) (e : Refusal) → i < length calls → answer_at answers' i ≡ Refused e → number e ≡ 15 → NoPlan (tally i) (take (place e) (papers_at calls lent' i).numbers)
  pub plans_are_found : (i : ℕ) (l : Lengths) (plan : List ℕ) → i < length calls → call_at calls i ≡ Plan l → fault (tally i) (call_at calls i) ≡ None → Obeys (tally i).meaning plan → refusal_of (answer_at answers' i) ≡ None
  pub stations_keep_order : (i n k : ℕ) → i < length calls → call_at calls i ≡ ListStations n → answer_at answers' i ≡ Listed k
      → Ordered (short (tally i).meaning) (tally i).meaning.open_stations (tally i).station_list (take k (papers_at calls lent' i).numbers)
  pub runs_keep_order : (i n k : ℕ) → i < length calls → call_at calls i ≡ ListRuns n → answer_at answers' i ≡ Listed k
      → Ordered (runs (tally i).plan) m (tally i).run_list (take k (papers_at calls lent' i).numbers)
