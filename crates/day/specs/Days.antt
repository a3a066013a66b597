-- A day, from its input to the lines that tell it.
--   DayRun      an input, and lines that tell a run of its calls
--   TooMuch     an input whose calls take more memory than a day is lent
--   Day         an input, and the lines that tell its day
use Rattle.std.specs.Prelude.{◌≡◌, ℕ, ◌⊎◌, List, length, Option}
use Rattle.network.specs.Nets.{Net}
use Rattle.tally.specs.Runs.{Lent}
use Rattle.tally.specs.declared.answer.Answer.{Answer}
use Rattle.tally.specs.declared.call.Call.{Call}
use Rattle.board.specs.Running.{Fits}
use Rattle.answers.specs.Answered.{refusal_line}
use Rattle.call_lines.specs.Entries.{sizes_of, Read, calls_of}
use Rattle.day.specs.Lines.{day_lines}
use Rattle.day.specs.Memories.{NewRun, most_lent}

-- the calls are those that the lines tell, the memory suffices for them, the answers and what is handed out are those of a run on a
-- new board, and the lines tell them
pub record DayRun (net : Net) (input bytes : List ℕ) : Type 0 where
  pub entries : List (Option Call)
  pub read : Read (sizes_of net) input entries
  pub before : List Answer
  pub answers : List Answer
  pub lent : Lent
  pub handed : Lent
  pub run : NewRun net (calls_of entries) before answers lent handed
  pub told : bytes ≡ day_lines (sizes_of net) 1 entries answers handed

pub record TooMuch (net : Net) (input bytes : List ℕ) : Type 0 where
  pub entries : List (Option Call)
  pub read : Read (sizes_of net) input entries
  pub too_much : Fits (length net.legs) (calls_of entries) (length (calls_of entries)) most_lent → ⊥
  pub told : bytes ≡ refusal_line 11 0

abbrev pub Day : Net → List ℕ → List ℕ → Type 0
Day net input bytes = DayRun net input bytes ⊎ TooMuch net input bytes
