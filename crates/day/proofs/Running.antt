-- A run that is told is a day.
use Rattle.std.proofs.Common.{◌≡◌, ℕ, List, Ok, Err, Option, Result, IfOk, inl, subst}
use Rattle.network.specs.Nets.{Net}
use Rattle.tally.specs.Runs.{Lent}
use Rattle.tally.specs.declared.answer.Answer.{Answer}
use Rattle.tally.specs.declared.call.Call.{Call}
use Rattle.call_lines.specs.Entries.{sizes_of, Read, calls_of}
use Rattle.day.specs.Days.{Day}
use Rattle.day.specs.Lines.{day_lines}
use Rattle.day.specs.Memories.{NewRun}

pub ran_day : {S E : Type 0} (bytes : S → List ℕ) (net : Net) (input : List ℕ) (entries : List (Option Call)) → Read (sizes_of net) input entries
    → (calls : List Call) → calls ≡ calls_of entries → (before answers : List Answer) (lent handed : Lent) → NewRun net calls before answers lent handed
    → (r : Result S E) → IfOk r (λ s. bytes s ≡ day_lines (sizes_of net) 1 entries answers handed) → IfOk r (λ s. Day net input (bytes s))
ran_day bytes net input entries read calls same before answers lent handed run (Ok s) told = inl (record {
  entries = entries;
  read = read;
  before = before;
  answers = answers;
  lent = lent;
  handed = handed;
  run = subst (λ k. NewRun net k before answers lent handed) same run;
  told = told;
})
ran_day bytes net input entries read calls same before answers lent handed run (Err e) told = tt
