use Rattle.plans.proofs.Best.{best}
use Rattle.plans.proofs.certified_plan_is_cheapest_then_nearest.Goals as goal

pub returns : goal.returns
returns c = best
