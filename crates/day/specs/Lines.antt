-- The lines that tell what the calls of a day answered.
--   joined, bracketed   words in brackets, with commas between them
--   amounts_line, prices_line, cut_line, list_line   what an answer hands out
--   cut_lines       the cut of a refusal that has one
--   handed_lines    what an answer hands out, where there are so many stations
--   call_line       a call and its answer, with the number of its line
--   no_call_line    a line that tells no call
--   papers_first, amounts_first   the slices of the first call among those that are handed out
--   entry_lines     what is told of an entry, by the answers and the memory from it on
--   answers_behind, lent_behind   the answers and the memory of the entries behind one
--   day_lines       what is told of entries from a line on
use Rattle.std.specs.Prelude.{ℕ, ◌+◌, List, [], ◌∷◌, ◌++◌, map, take, drop, ℤ, Some, None, Option, codes}
use Rattle.std.specs.Fmt.{decimal, signed_decimal}
use Rattle.records.specs.declared.refusal.Refusal.{Refusal}
use Rattle.records.specs.declared.refusal.Refusal.TheVariants.{NoPlanObeys}
use Rattle.tally.specs.Follows.{Papers, papers}
use Rattle.tally.specs.Runs.{Lent, answer_at, prices_long, numbers_long, amounts_long}
use Rattle.tally.specs.Texts.{call_text, answer_text}
use Rattle.tally.specs.declared.answer.Answer.{Answer}
use Rattle.tally.specs.declared.answer.Answer.TheVariants.{Refused, Planned, Listed}
use Rattle.tally.specs.declared.call.Call.{Call}
use Rattle.board.specs.Running.{lending}
use Rattle.call_lines.specs.declared.sizes.Sizes.{Sizes}

-- the first word behind `lead`, each other one behind a comma
abbrev pub joined : List ℕ → List (List ℕ) → List ℕ
joined lead [] = []
joined lead (w ∷ ws) = lead ++ (w ++ joined (codes ", ") ws)

abbrev pub bracketed : List (List ℕ) → List ℕ
bracketed ws = codes "[" ++ (joined [] ws ++ codes "]")

abbrev pub amounts_line : List ℕ → List ℕ
amounts_line xs = codes "  amounts " ++ (bracketed (map decimal xs) ++ (10 ∷ []))

abbrev pub prices_line : List ℤ → List ℕ
prices_line ps = codes "  prices " ++ (bracketed (map signed_decimal ps) ++ (10 ∷ []))

abbrev pub cut_line : List ℕ → List ℕ
cut_line ns = codes "  cut " ++ (bracketed (map decimal ns) ++ (10 ∷ []))

abbrev pub list_line : List ℕ → List ℕ
list_line ns = codes "  list " ++ (bracketed (map decimal ns) ++ (10 ∷ []))

abbrev pub cut_lines : Refusal → List ℕ → List ℕ
cut_lines (NoPlanObeys k) ns = cut_line (take k ns)
cut_lines _ ns = []

abbrev pub handed_lines : ℕ → Answer → Papers → List ℕ → List ℕ
handed_lines n (Planned c d) p xs = amounts_line xs ++ prices_line (take n p.prices)
handed_lines n (Refused e) p xs = cut_lines e p.numbers
handed_lines n (Listed k) p xs = list_line (take k p.numbers)
handed_lines n _ p xs = []

abbrev pub call_line : ℕ → Call → Answer → List ℕ
call_line i call answer = decimal i ++ (codes " " ++ (call_text call ++ (codes ": " ++ (answer_text answer ++ (10 ∷ [])))))

abbrev pub no_call_line : ℕ → List ℕ
no_call_line i = decimal i ++ (codes ": no call has this form" ++ (10 ∷ []))

abbrev pub papers_first : Call → Lent → Papers
papers_first call lent = papers (take (prices_long call) lent.prices) (take (numbers_long call) lent.numbers)

abbrev pub amounts_first : ℕ → Call → Lent → List ℕ
amounts_first m call lent = take (amounts_long m call) lent.amounts

abbrev pub entry_lines : Sizes → ℕ → Option Call → List Answer → Lent → List ℕ
entry_lines s i None answers lent = no_call_line i
entry_lines s i (Some call) answers lent =
    let answer = answer_at answers 0 in
    call_line i call answer ++ handed_lines s.stations answer (papers_first call lent) (amounts_first s.legs call lent)

abbrev pub answers_behind : Option Call → List Answer → List Answer
answers_behind None answers = answers
answers_behind (Some call) answers = drop 1 answers

abbrev pub lent_behind : ℕ → Option Call → Lent → Lent
lent_behind m None lent = lent
lent_behind m (Some call) lent =
    lending (drop (prices_long call) lent.prices) (drop (numbers_long call) lent.numbers) (drop (amounts_long m call) lent.amounts)

-- lines are numbered as they come
abbrev pub day_lines : Sizes → ℕ → List (Option Call) → List Answer → Lent → List ℕ
day_lines s i [] answers lent = []
day_lines s i (e ∷ es) answers lent =
    entry_lines s i e answers lent ++ day_lines s (i + 1) es (answers_behind e answers) (lent_behind s.legs e lent)
