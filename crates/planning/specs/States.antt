-- A planning under way.
--   Underway    a draft whose plan fits and is certified, with what it leaves over
--   Marks       marks on the stations that have bikes over
--   Marking     such marks, as they are written
--   Lessened    what any sendings do to a plan: no more bikes are over, and no certificate is lost
--   SentAll     what sending to every station in turn does
--   SentSome    what sending to some stations does
--   SendsAll    the same as SentAll, whatever plan the labels are settled for
--   SendsSome   the same of sendings to some stations
--   Turned      what a turn does: a search, and sendings to all stations
--   Turns       a turn that is not refused
--   TurnsEnd    what all turns come to
--   Finishes    what is answered and written once a plan is the best one: it is not refused
--   Prepared    tables that are long enough for a network whose legs lead from station to station
use Rattle.std.specs.Prelude.{◌≡◌, ℕ, ◌<◌, ◌≤◌, Bool, false, List, length, ℤ, pos, Some, None, Ok, Err, Option, Result, ◌≤ℤ◌, ◌<ℤ◌, int_lt, slice_index_or}
use Rattle.records.specs.declared.refusal.Refusal.{Refusal}
use Rattle.network.specs.Nets.{Net}
use Rattle.plans.specs.Plans.{stations, EndsBelow}
use Rattle.plans.specs.Residuals.{Certifies}
use Rattle.plans.specs.Cuts.{Cut, left_over}
use Rattle.certificates.specs.Totals.{all_over}
use Rattle.planning.specs.declared.draft.Draft.{Draft}
use Rattle.search.specs.Searches.{From}
use Rattle.search.specs.declared.label.Arrival.{Arrival}
use Rattle.search.specs.declared.label.Label.{Label}
use Rattle.planning_rules.specs.Answers.{the_plan, Accepted, Refused}
use Rattle.planning.specs.Sends.{Both, Known, SettledFor, Tracks, Agrees}
use Rattle.planning.specs.Reached.{reached_below}
use Rattle.planning.specs.declared.tables.Tables.{Tables}

-- some potential shows that no plan with as much left over at each station is better; `over` bikes are over in all
pub record Underway (net : Net) (standing : List ℕ) (draft : Draft) (over : ℕ) : Type 0 where
  pub tracks : Tracks net draft.amounts.now draft.left.now
  pub over_all : over ≡ all_over net (the_plan net draft.amounts.now)
  pub potential : ℕ → ℤ × ℤ
  pub certified : Certifies net standing (the_plan net draft.amounts.now) potential

-- of the first n
abbrev pub Marks : ℕ → List ℤ → List Bool → Type 0
Marks n left marks = (v : ℕ) → v < n → slice_index_or marks v false ≡ int_lt (pos 0) (slice_index_or left v (pos 0))

-- from `over` to `r` bikes that are over in all
pub record Lessened (net : Net) (standing : List ℕ) (ls : List (Label Both)) (over r : ℕ) (plan : List ℕ) (after : Draft) : Type 0 where
  pub tracks : Tracks net after.amounts.now after.left.now
  pub over_all : r ≡ all_over net (the_plan net after.amounts.now)
  pub fewer : r ≤ over
  pub certified : (π : ℕ → ℤ × ℤ) → Agrees net ls π → Certifies net standing plan π → Certifies net standing (the_plan net after.amounts.now) π

-- from a plan that the labels are settled for: if nothing moves, no labelled station lacks bikes
pub record SentAll (net : Net) (standing : List ℕ) (ls : List (Label Both)) (over r : ℕ) (before after : Draft) : Type 0 where
  pub lessened : Lessened net standing ls over r (the_plan net before.amounts.now) after
  pub still : r ≡ over → (after.amounts.now ≡ before.amounts.now) × ((v : ℕ) (x : Arrival Both) → v < stations net → Known ls v x → pos 0 ≤ℤ left_over net (the_plan net before.amounts.now) v)

-- the same of sendings to some stations: if nothing moves, the draft is as it was
pub record SentSome (net : Net) (standing : List ℕ) (ls : List (Label Both)) (over r : ℕ) (before after : Draft) : Type 0 where
  pub lessened : Lessened net standing ls over r (the_plan net before.amounts.now) after
  pub still : r ≡ over → (after.amounts.now ≡ before.amounts.now) × (after.left.now ≡ before.left.now)

-- fewer bikes are over, or nothing has moved and that shows a cut
abbrev pub Turned : Net → List ℕ → ℕ → Option ℕ → Tables → Type 0
Turned net standing over (Some r) tables = Underway net standing tables.draft r × (r < over)
Turned net standing over None tables = Cut net (reached_below tables.labels.now (stations net))

abbrev pub Turns : Net → List ℕ → ℕ → Result (Option ℕ) Refusal → Tables → Type 0
Turns net standing over (Ok answer) tables = Turned net standing over answer tables
Turns net standing over (Err e) tables = ⊥

-- by whether nothing is over in the end, or a turn that moved nothing has shown a cut
abbrev pub TurnsEnd : Net → List ℕ → Result (Unit {0}) Refusal → Tables → List ℕ → List ℕ → Type 0
TurnsEnd net standing (Ok done) tables cut cut' = Underway net standing tables.draft 0 × (cut' ≡ cut)
TurnsEnd net standing (Err e) tables cut cut' = (prices : List ℤ) → Refused net None e prices prices cut cut'

-- whatever a cut holds that is not written
abbrev pub Finishes : Net → List ℕ → List ℕ → Result (ℕ × ℕ) Refusal → List ℤ → List ℤ → Type 0
Finishes net standing plan (Ok answer) prices prices' = (cut : List ℕ) → Accepted net standing plan answer.0 answer.1 prices prices' cut cut
Finishes net standing plan (Err e) prices prices' = ⊥

abbrev pub Marking : List ℤ → List Bool → List Bool → Type 0
Marking left marks marks' = (length marks' ≡ length marks) × Marks (length marks) left marks'

-- whatever the labels are settled for
abbrev pub SendsAll : Net → List ℕ → List (Label Both) → ℕ → ℕ → Draft → Draft → Type 0
SendsAll net standing ls over r before after =
    (f : ℕ → Bool) → SettledFor net standing (the_plan net before.amounts.now) f ls → ((v : ℕ) → From net f v → pos 0 <ℤ left_over net (the_plan net before.amounts.now) v) → Tracks net before.amounts.now before.left.now → over ≡ all_over net (the_plan net before.amounts.now)
    → SentAll net standing ls over r before after

abbrev pub SendsSome : Net → List ℕ → List (Label Both) → ℕ → ℕ → Draft → Draft → Type 0
SendsSome net standing ls over r before after =
    (f : ℕ → Bool) → SettledFor net standing (the_plan net before.amounts.now) f ls → Tracks net before.amounts.now before.left.now → over ≡ all_over net (the_plan net before.amounts.now) → SentSome net standing ls over r before after

-- entries for each station and each leg, and legs between stations
pub record Prepared (net : Net) (tables : Tables) : Type 0 where
  pub amounts : length net.legs ≤ length tables.draft.amounts.now
  pub left : stations net ≤ length tables.draft.left.now
  pub potentials : stations net ≤ length tables.potentials.now
  pub marks : stations net ≤ length tables.marks.now
  pub labels : stations net ≤ length tables.labels.now
  pub cents : stations net ≤ length tables.cents.now
  pub heads : stations net ≤ length tables.chains.heads.now
  pub nexts : length net.legs ≤ length tables.chains.nexts.now
  pub heap : stations net ≤ length tables.queue.heap.now
  pub places : stations net ≤ length tables.queue.places.now
  pub ends_below : EndsBelow net
