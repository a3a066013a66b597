use Rattle.planning_rules.proofs.Passing.{say}
use Rattle.planning_rules.proofs.passed_checks_say.Goals as goal

pub returns : goal.returns
returns c = say
