-- The memory that is lent to a day's run.
--   most_lent   as much as a day is lent at most
--   Both        what is taken by one and then by another, as far as a day is lent so much
--   handed_by   what is handed out
--   Suffices    memory that suffices for calls, unless they take more than a day is lent
--   NewRun      a run on a new board, for which the memory suffices
--   Made        what a run answers and leaves
use Rattle.std.specs.Prelude.{◌≡◌, ℕ, ◌+◌, ◌≤◌, ◌⊎◌, List, length, Ok, Err, Result}
use Rattle.records.specs.declared.refusal.Refusal.{Refusal}
use Rattle.records.specs.declared.refusal.Refusal.TheVariants.{SliceTooShort}
use Rattle.network.specs.Nets.{Net}
use Rattle.planning.specs.declared.tables.Tables.{Tables}
use Rattle.tally.specs.Tallies.{Tally, fresh}
use Rattle.tally.specs.Runs.{Lent, WholeRun}
use Rattle.tally.specs.declared.answer.Answer.{Answer}
use Rattle.tally.specs.declared.call.Call.{Call}
use Rattle.board.specs.Running.{Fits, given, lending}
use Rattle.board.specs.declared.entries.Entries.{Entries}
use Rattle.workspace.specs.Entries.{Holds}
use Rattle.day.specs.declared.memory.Memory.{Memory}

-- of each kind four million entries
abbrev pub most_lent : Entries
most_lent = record { prices = 4000000; numbers = 4000000; amounts = 4000000; stations = 4000000; legs = 4000000 }

-- working tables serve both
pub record Both (a b r : Entries) : Type 0 where
  pub prices : (n : ℕ) → n ≤ 4000000 → n ≤ a.prices + b.prices → n ≤ r.prices
  pub numbers : (n : ℕ) → n ≤ 4000000 → n ≤ a.numbers + b.numbers → n ≤ r.numbers
  pub amounts : (n : ℕ) → n ≤ 4000000 → n ≤ a.amounts + b.amounts → n ≤ r.amounts
  pub stations : (n : ℕ) → n ≤ 4000000 → (n ≤ a.stations) ⊎ (n ≤ b.stations) → n ≤ r.stations
  pub legs : (n : ℕ) → n ≤ 4000000 → (n ≤ a.legs) ⊎ (n ≤ b.legs) → n ≤ r.legs

abbrev pub handed_by : Memory → Lent
handed_by m = lending m.prices.items m.numbers.items m.amounts.items

pub record Suffices (legs : ℕ) (calls : List Call) (m : Memory) : Type 0 where
  pub room : Entries
  pub answers : length m.answers.items ≡ length calls
  pub prices : length m.prices.items ≡ room.prices
  pub numbers : length m.numbers.items ≡ room.numbers
  pub amounts : length m.amounts.items ≡ room.amounts
  pub workspace : Holds room.stations room.legs m.workspace
  pub fits : Fits legs calls (length calls) most_lent → Fits legs calls (length calls) room

-- there is room for each answer, and the memory with some working tables suffices
pub record NewRun (net : Net) (calls : List Call) (before answers : List Answer) (lent handed : Lent) : Type 0 where
  pub last : Tally
  pub tables : Tables
  pub enough : length calls ≤ length before
  pub fits : Fits (length net.legs) calls (length calls) (given lent tables)
  pub run : WholeRun (length net.legs) (fresh net) last calls before answers lent handed

-- a run on a new board; or a refusal, as the calls take too much if the memory suffices for all that a day is lent
abbrev pub Made : Result (Unit {0}) Refusal → Net → List Call → Memory → List Answer → Lent → Type 0
Made (Ok u) net calls m answers handed = NewRun net calls m.answers.items answers (handed_by m) handed
Made (Err e) net calls m answers handed =
    (e ≡ SliceTooShort) × (Suffices (length net.legs) calls m → Fits (length net.legs) calls (length calls) most_lent → ⊥)
