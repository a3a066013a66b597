-- What an answer says.
--   refusal_of    number and place of the refusal, none of an accepted call
--   number_of     the number alone
--   done, listed, planned   the answer that a call's result stands for
use Rattle.std.specs.Prelude.{ℕ, Some, None, Ok, Err, Option, Result}
use Rattle.std.specs.Option.{option_map}
use Rattle.records.specs.Refusals.{number, place}
use Rattle.records.specs.declared.refusal.Refusal.{Refusal}
use Rattle.tally.specs.declared.answer.Answer.{Answer}
use Rattle.tally.specs.declared.answer.Answer.TheVariants.{Done, Refused, Planned, Listed}

abbrev pub refusal_of : Answer → Option (ℕ × ℕ)
refusal_of (Refused e) = Some (number e, place e)
refusal_of _ = None

abbrev pub number_of : Answer → Option ℕ
number_of answer = option_map (λ f. f.0) (refusal_of answer)

abbrev pub done : Result (Unit {0}) Refusal → Answer
done (Ok u) = Done
done (Err e) = Refused e

abbrev pub listed : Result ℕ Refusal → Answer
listed (Ok k) = Listed k
listed (Err e) = Refused e

abbrev pub planned : Result (ℕ × ℕ) Refusal → Answer
planned (Ok p) = Planned p.0 p.1
planned (Err e) = Refused e
