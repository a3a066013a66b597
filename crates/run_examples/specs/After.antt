-- What the rules of a board allow after a call.
--   Outcome         what is said of an answer, of the slices before and after it, and of the tally after it
--   After           there are answers, exactly those that the outcome is true of, and then the run goes on
--   AfterPlanning   the same of a planning whose slices and working tables are long enough
--   AfterListing    the same of a listing of stations whose slice is long enough
--   End             the run does not go on
--   NewPlan         a planning is accepted, with this plan
--   Holds           a slice in which prices were written
--   CutOff          a planning is refused, with stations 0 and 1 as the cut
--   Alters          a report or a closing is accepted
--   HandsOut        a list of stations is handed out
-- A prime marks what slices and the tally are afterwards.
use Rattle.std.specs.Prelude.{◌≡◌, ℕ, ◌<◌, ◌≤◌, ◌⊎◌, ◌↔◌, List, [], ◌∷◌, ◌++◌, length, drop, ℤ}
use Rattle.records.specs.declared.refusal.Refusal.TheVariants.{NoPlanObeys}
use Rattle.network.specs.Nets.{Net}
use Rattle.plans.specs.Plans.{stations}
use Rattle.plans.specs.Prices.{price_at, Prices}
use Rattle.planning_rules.specs.declared.lengths.Lengths.{Lengths}
use Rattle.tally.specs.Tallies.{Tally, with_meaning, with_plan, with_stations}
use Rattle.tally.specs.Follows.{Papers, papers, written, Follows}
use Rattle.tally.specs.declared.answer.Answer.{Answer}
use Rattle.tally.specs.declared.answer.Answer.TheVariants.{Done, Refused, Planned, Listed}
use Rattle.tally.specs.declared.call.Call.{Call}
use Rattle.tally.specs.declared.call.Call.TheVariants.{Plan, ListStations}

abbrev pub Outcome : Type 1
Outcome = Answer → Papers → Papers → Tally → Type 0

-- whatever the slices hold that are handed in, the rules allow an answer; they allow an answer exactly where the outcome is
-- true; and whichever is given, `next` is true of the tally after it
pub record After (t : Tally) (call : Call) (outcome : Outcome) (next : Tally → Type 0) : Type 0 where
  pub possible : (q : Papers) → (x : Answer) × (q' : Papers) × (t' : Tally) × Follows t call x q q' t'
  pub exactly : (x : Answer) (q q' : Papers) (t' : Tally) → Follows t call x q q' t' ↔ outcome x q q' t'
  pub goes_on : (x : Answer) (q q' : Papers) (t' : Tally) → Follows t call x q q' t' → next t'

-- a price and an entry of the cut for each station, and working tables for 240 stations and 3,000 legs, or more
abbrev pub AfterPlanning : Tally → Outcome → (Tally → Type 0) → Type 0
AfterPlanning t outcome next =
    (l : Lengths) → stations t.meaning ≤ l.prices → stations t.meaning ≤ l.cut → 240 ≤ l.station_entries → 3000 ≤ l.leg_entries → After t (Plan l) outcome next

-- an entry for each open station, or more
abbrev pub AfterListing : Tally → Outcome → (Tally → Type 0) → Type 0
AfterListing t outcome next = (n : ℕ) → t.meaning.open_stations ≤ n → After t (ListStations n) outcome next

abbrev pub End : Tally → Type 0
End t = Unit {0}

-- at c cents and at the difference d from the plan before; the plan stands, each station has its price under it, and all
-- else stays, the length of a slice with all prices, too
pub record NewPlan (t : Tally) (plan : List ℕ) (c d : ℕ) (x : Answer) (q q' : Papers) (t' : Tally) : Type 0 where
  pub answered : x ≡ Planned c d
  pub stands : t' ≡ with_plan t plan
  pub priced : Prices t.meaning plan q'.prices
  pub prices_beyond : drop (stations t.meaning) q'.prices ≡ drop (stations t.meaning) q.prices
  pub prices_as_long : stations t.meaning ≤ length q.prices → length q'.prices ≡ length q.prices
  pub cut_stays : q'.numbers ≡ q.numbers

-- its entries one by one; and the whole slice, if it is long enough: the prices, and then what was there before
pub record Holds (prices before after : List ℤ) : Type 0 where
  pub each : (v : ℕ) → v < length prices → price_at after v ≡ price_at prices v
  pub whole : length prices ≤ length after → after ≡ prices ++ drop (length prices) before

-- in either order, with all else as it was
pub record CutOff (t : Tally) (x : Answer) (q q' : Papers) (t' : Tally) : Type 0 where
  pub answered : x ≡ Refused (NoPlanObeys 2)
  pub cut : (q'.numbers ≡ written (0 ∷ 1 ∷ []) q.numbers) ⊎ (q'.numbers ≡ written (1 ∷ 0 ∷ []) q.numbers)
  pub prices_stay : q'.prices ≡ q.prices
  pub tally_stays : t' ≡ t

-- the network becomes this one, and all else stays
pub record Alters (t : Tally) (net : Net) (x : Answer) (q q' : Papers) (t' : Tally) : Type 0 where
  pub answered : x ≡ Done
  pub slices_stay : q' ≡ q
  pub becomes : t' ≡ with_meaning t net

-- in the first entries of its slice; the list is kept, and all else stays
pub record HandsOut (t : Tally) (vs : List ℕ) (x : Answer) (q q' : Papers) (t' : Tally) : Type 0 where
  pub answered : x ≡ Listed (length vs)
  pub handed_out : q' ≡ papers q.prices (written vs q.numbers)
  pub remembered : t' ≡ with_stations t vs
