use Rattle.planning.proofs.Leaving.{bare_mend}
use Rattle.planning.proofs.without_potentials_the_first_plan_is_laid.Goals as goal

pub returns : goal.returns
returns c = bare_mend
