-- Running a list of calls on lent memory.
--   stations_long, legs_long   how many entries of the working tables a call takes
--   of_lengths   the entries of a planning's slices and working tables, and so many amounts
--   entries      how many entries of each kind a call takes
--   TooFew, Left what is left once a call has taken its entries
--   Fits         memory that suffices for the first `count` calls
--   lending      memory as lists
--   lent_by      what a sheet lends
--   given        how much memory is lent
--   SameSheet    the same slices, with as many entries; a clause, as SameDraft is, since a struct of `&mut` slices has no invariant over a call
--   Stays        what stays of network, sheet and working tables
--   Handed       a call that is handed what it takes
--   HasRoom      a call that finds what it takes
--   Moves        where the entries of the next call begin
--   MadeAll      calls that were made
--   Ran          what a run answers and leaves
--   WholeRan     the same of a run on a new board
use Rattle.std.specs.Prelude.{◌≡◌, ℕ, ◌+◌, ◌<◌, ◌≤◌, ◌⊎◌, List, length, ℤ, Ok, Err, Result}
use Rattle.records.specs.declared.refusal.Refusal.{Refusal}
use Rattle.records.specs.declared.refusal.Refusal.TheVariants.{SliceTooShort}
use Rattle.plans.specs.Slices.{SameSlice}
use Rattle.planning_rules.specs.declared.lengths.Lengths.{Lengths}
use Rattle.planning.specs.Tables.{SameTables, lengths_of}
use Rattle.planning.specs.declared.tables.Tables.{Tables}
use Rattle.tally.specs.Tallies.{Tally}
use Rattle.tally.specs.Runs.{Lent, call_at, prices_long, numbers_long, amounts_long, from, Beyond, Run, Sound, WholeRun}
use Rattle.tally.specs.declared.answer.Answer.{Answer}
use Rattle.tally.specs.declared.call.Call.{Call}
use Rattle.tally.specs.declared.call.Call.TheVariants.{Plan}
use Rattle.board.specs.declared.entries.Entries.{Entries}
use Rattle.board.specs.declared.sheet.Sheet.{Sheet}

-- of the working tables, the entries for stations and for legs
abbrev pub stations_long : Call → ℕ
stations_long (Plan l) = l.station_entries
stations_long _ = 0

abbrev pub legs_long : Call → ℕ
legs_long (Plan l) = l.leg_entries
legs_long _ = 0

-- a cut's slice counts as one for numbers
abbrev pub of_lengths : Lengths → ℕ → Entries
of_lengths l m = record { prices = l.prices; numbers = l.cut; amounts = m; stations = l.station_entries; legs = l.leg_entries }

-- where there are m legs
abbrev pub entries : ℕ → Call → Entries
entries m call = record { prices = prices_long call; numbers = numbers_long call; amounts = amounts_long m call; stations = stations_long call; legs = legs_long call }

-- a call finds fewer entries than it takes
abbrev pub TooFew : Entries → Entries → Type 0
TooFew left taken =
    (left.prices < taken.prices) ⊎ ((left.numbers < taken.numbers) ⊎ ((left.amounts < taken.amounts) ⊎ ((left.stations < taken.stations) ⊎ (left.legs < taken.legs))))

-- working tables serve every call
pub record Left (left taken rest : Entries) : Type 0 where
  pub prices : rest.prices + taken.prices ≡ left.prices
  pub numbers : rest.numbers + taken.numbers ≡ left.numbers
  pub amounts : rest.amounts + taken.amounts ≡ left.amounts
  pub stations : rest.stations ≡ left.stations
  pub legs : rest.legs ≡ left.legs
  pub stations_suffice : taken.stations ≤ left.stations
  pub legs_suffice : taken.legs ≤ left.legs

-- prices, numbers and amounts for all those calls, one behind the other; working tables for each of them
pub record Fits (m : ℕ) (calls : List Call) (count : ℕ) (lent : Entries) : Type 0 where
  pub prices : from prices_long calls count ≤ lent.prices
  pub numbers : from numbers_long calls count ≤ lent.numbers
  pub amounts : from (amounts_long m) calls count ≤ lent.amounts
  pub stations : (i : ℕ) → i < count → stations_long (call_at calls i) ≤ lent.stations
  pub legs : (i : ℕ) → i < count → legs_long (call_at calls i) ≤ lent.legs

abbrev pub lending : List ℤ → List ℕ → List ℕ → Lent
lending ps ns xs = record { prices = ps; numbers = ns; amounts = xs }

abbrev pub lent_by : Sheet → Lent
lent_by sheet = lending sheet.prices.now sheet.numbers.now sheet.amounts.now

-- with the lengths of the working tables
abbrev pub given : Lent → Tables → Entries
given lent tables = of_lengths (lengths_of lent.prices lent.numbers tables) (length lent.amounts)

pub record SameSheet (before after : Sheet) : Type 0 where
  pub prices : SameSlice before.prices after.prices
  pub numbers : SameSlice before.numbers after.numbers
  pub amounts : SameSlice before.amounts after.amounts

-- of the network what every call keeps, and the lent slices
pub record Stays {N : Type 0} (keeps : N → N → Type 0) (net net' : N) (sheet sheet' : Sheet) (tables tables' : Tables) : Type 0 where
  pub kept : keeps net net'
  pub sheet_stays : SameSheet sheet sheet'
  pub tables_stay : SameTables tables tables'

-- slices exactly as long as it says, and working tables at least as long
pub record Handed (m : ℕ) (call : Call) (has : Entries) : Type 0 where
  pub prices : has.prices ≡ prices_long call
  pub numbers : has.numbers ≡ numbers_long call
  pub amounts : has.amounts ≡ amounts_long m call
  pub stations : stations_long call ≤ has.stations
  pub legs : legs_long call ≤ has.legs

-- its entries lie within the lent memory from the places on; what it asks of working tables, in two fields, is what Handed asks, and
-- stands in both, so that each says its case in full
pub record HasRoom (m : ℕ) (call : Call) (at has : Entries) : Type 0 where
  pub prices : at.prices + prices_long call ≤ has.prices
  pub numbers : at.numbers + numbers_long call ≤ has.numbers
  pub amounts : at.amounts + amounts_long m call ≤ has.amounts
  pub stations : stations_long call ≤ has.stations
  pub legs : legs_long call ≤ has.legs

pub record Moves (m : ℕ) (call : Call) (at at' : Entries) : Type 0 where
  pub prices : at'.prices ≡ at.prices + prices_long call
  pub numbers : at'.numbers ≡ at.numbers + numbers_long call
  pub amounts : at'.amounts ≡ at.amounts + amounts_long m call

-- the first `count` calls were made, from tally to tally
pub record MadeAll (m : ℕ) (first last : Tally) (calls : List Call) (count : ℕ) (answers answers' : List Answer) (lent lent' : Lent) : Type 0 where
  pub tally : ℕ → Tally
  pub run : Run m first last calls count answers' lent lent' tally
  pub beyond : Beyond m calls count answers answers' lent lent'

-- accepted, all calls were made, each by its rule; from a sound tally all that is true of a run holds besides. Refused exactly when
-- there are fewer answers than calls or the memory does not suffice; tally, answers and sheet then stay
abbrev pub Ran : Result (Unit {0}) Refusal → Entries → ℕ → Tally → Tally → List Call → List Answer → List Answer → Lent → Lent → Type 0
Ran (Ok u) has m first last calls answers answers' lent lent' =
    (length calls ≤ length answers) × Fits m calls (length calls) has × MadeAll m first last calls (length calls) answers answers' lent lent'
    × (Sound m first → WholeRun m first last calls answers answers' lent lent')
Ran (Err e) has m first last calls answers answers' lent lent' =
    (e ≡ SliceTooShort) × (length calls ≤ length answers → Fits m calls (length calls) has → ⊥) × ((last ≡ first) × (answers' ≡ answers) × (lent' ≡ lent))

-- from the tally of a new board, for each call of the run: its answer, its slices and the tally after it are those that the
-- rules give it, and all that is true of a run holds
abbrev pub WholeRan : Result (Unit {0}) Refusal → Entries → Tally → Tally → List Call → List Answer → List Answer → Lent → Lent → Type 0
WholeRan (Ok u) has first last calls answers answers' lent lent' =
    (length calls ≤ length answers) × Fits (length first.meaning.legs) calls (length calls) has × WholeRun (length first.meaning.legs) first last calls answers answers' lent lent'
WholeRan (Err e) has first last calls answers answers' lent lent' =
    (e ≡ SliceTooShort) × (length calls ≤ length answers → Fits (length first.meaning.legs) calls (length calls) has → ⊥) × ((last ≡ first) × (answers' ≡ answers) × (lent' ≡ lent))
