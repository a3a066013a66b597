use Rattle.planning.proofs.Leaving.{no_guess_first}
use Rattle.planning.proofs.no_guess_begins_with_the_first_plan.Goals as goal

pub returns : goal.returns
returns c = no_guess_first
