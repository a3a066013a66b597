use Rattle.planning_rules.proofs.Lowering.{says}
use Rattle.planning_rules.proofs.lowest_is_the_lowest.Goals as goal

pub returns : goal.returns
returns c = says
