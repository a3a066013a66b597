-- Taking one line of a text.
--   State        where the reading of a text stands
--   state_of     the state of a reader
--   fresh        the state before the first line
--   row_at       the bytes of the line at a place
--   next_place   where the line behind the one at a place begins: behind its line end, or at the text's end
--   judged_row   what is settled once a row is taken, or why it is not
--   judged_next  the same of the next line
--   behind_next  the state behind the next line, by what is settled then
--   TookLine     what taking a line answers, and the states before and after it
use Rattle.std.specs.Prelude.{◌≡◌, ℕ, ◌+◌, ◌<◌, ◌≤◌, min, cond, List, length, drop, Some, None, Ok, Err, Option, Result, nat_le}
use Rattle.records.specs.declared.refusal.Refusal.{Refusal}
use Rattle.records.specs.declared.refusal.Refusal.TheVariants.{TextTooLong, LineOutOfForm}
use Rattle.lines.specs.Scan.{scan}
use Rattle.lines.specs.declared.line.Line.{Line}
use Rattle.text_rules.specs.Judging.{judged}
use Rattle.text_rules.specs.Rows.{first_row}
use Rattle.text_rules.specs.declared.progress.Progress.{Progress}
use Rattle.text_rules.specs.declared.progress.Room.{Room}
use Rattle.reader.specs.declared.under_way.Reader.{Reader}

-- the text, the room of the tables, the place of the next line's first byte, how many lines were taken, and what they settled
pub record State : Type 0 where
  pub text : List ℕ
  pub room : Room
  pub place : ℕ
  pub lines : ℕ
  pub progress : Progress

abbrev pub state_of : Reader → State
state_of r = record { text = r.text.now; room = r.room; place = r.place; lines = r.lines; progress = r.progress }

abbrev pub fresh : List ℕ → Room → State
fresh text room = record { text = text; room = room; place = 0; lines = 0; progress = record { header = None; arcs = 0 } }

abbrev pub row_at : List ℕ → ℕ → List ℕ
row_at text place = first_row (drop place text)

abbrev pub next_place : List ℕ → ℕ → ℕ
next_place text place = min (length text) (place + length (row_at text place) + 1)

abbrev pub judged_row : Room → Progress → ℕ → Option Line → Result Progress Refusal
judged_row room p number None = Err (LineOutOfForm number)
judged_row room p number (Some l) = judged room p number l

-- no line of a text that is too long is taken
abbrev pub judged_next : State → Result Progress Refusal
judged_next s =
    cond (nat_le (length s.text) 65536) (judged_row s.room s.progress (s.lines + 1) (scan (row_at s.text s.place))) (Err TextTooLong)

abbrev pub behind_next : State → Progress → State
behind_next s p = record { text = s.text; room = s.room; place = next_place s.text s.place; lines = s.lines + 1; progress = p }

-- at the end of the text there is no line; an accepted line is passed; a refused one is not, and settles nothing
abbrev pub TookLine : Result (Option Line) Refusal → State → State → Type 0
TookLine (Ok None) s s' = (length s.text ≤ 65536) × (length s.text ≤ s.place) × (s' ≡ s)
TookLine (Ok (Some l)) s s' =
    (length s.text ≤ 65536) × (s.place < length s.text) × (scan (row_at s.text s.place) ≡ Some l)
    × (judged s.room s.progress (s.lines + 1) l ≡ Ok s'.progress) × (s' ≡ behind_next s s'.progress)
TookLine (Err e) s s' = (length s.text ≤ 65536 → s.place < length s.text) × (judged_next s ≡ Err e) × (s' ≡ s)
