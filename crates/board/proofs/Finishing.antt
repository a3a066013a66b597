-- From calls that were made to what is true of the run.
use Rattle.std.proofs.Common.{ℕ, ◌≤◌, List, length, Ok}
use Rattle.tally.specs.Runs.{Lent}
use Rattle.tally.specs.Tallies.{Tally}
use Rattle.tally.specs.declared.answer.Answer.{Answer}
use Rattle.tally.specs.declared.call.Call.{Call}
use Rattle.tally.proofs.Whole.{whole}
use Rattle.board.specs.Running.{Fits, MadeAll, Ran}
use Rattle.board.specs.declared.entries.Entries.{Entries}

pub ran_all : (has : Entries) (m : ℕ) (first last : Tally) (calls : List Call) (answers answers' : List Answer) (lent lent' : Lent) → length calls ≤ length answers → Fits m calls (length calls) has
    → MadeAll m first last calls (length calls) answers answers' lent lent' → Ran (Ok tt) has m first last calls answers answers' lent lent'
ran_all has m first last calls answers answers' lent lent' h F A = (h, F, A, λ s. whole m first last calls answers answers' lent lent' A.tally s A.run A.beyond)
