-- How calls and answers are written.
--   call_text     a call, with its numbers in the order of the call
--   amount_text   an amount that may be absent
--   answer_text   an answer; a refusal by its number and place
use Rattle.std.specs.Prelude.{ℕ, List, ◌++◌, Some, None, Option, codes}
use Rattle.std.specs.Fmt.{decimal, signed_decimal}
use Rattle.records.specs.Refusals.{number, place}
use Rattle.records.specs.Words.{refusal_words}
use Rattle.tally.specs.declared.answer.Answer.{Answer}
use Rattle.tally.specs.declared.answer.Answer.TheVariants.{Done, Refused, Planned, Listed, Amount}
use Rattle.tally.specs.declared.call.Call.{Call}
use Rattle.tally.specs.declared.call.Call.TheVariants.{Report, Close, Reopen, Plan, ListStations, ListRuns, Read}

abbrev pub call_text : Call → List ℕ
call_text (Report s b) = codes "report " ++ decimal s ++ codes " " ++ signed_decimal b
call_text (Close k) = codes "close " ++ decimal k
call_text (Reopen k) = codes "reopen " ++ decimal k
call_text (Plan l) = codes "plan " ++ decimal l.prices ++ codes " " ++ decimal l.cut ++ codes " " ++ decimal l.station_entries ++ codes " " ++ decimal l.leg_entries
call_text (ListStations n) = codes "stations " ++ decimal n
call_text (ListRuns n) = codes "runs " ++ decimal n
call_text (Read k) = codes "read " ++ decimal k

abbrev pub amount_text : Option ℕ → List ℕ
amount_text None = codes "absent"
amount_text (Some x) = decimal x

abbrev pub answer_text : Answer → List ℕ
answer_text Done = codes "done"
answer_text (Refused e) = refusal_words (number e) (place e)
answer_text (Planned c d) = decimal c ++ (codes " cents, difference " ++ decimal d)
answer_text (Listed k) = decimal k ++ codes " listed"
answer_text (Amount x) = amount_text x
