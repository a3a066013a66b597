use Rattle.plans.proofs.Cutting.{excludes}
use Rattle.plans.proofs.cut_excludes_plans.Goals as goal

pub returns : goal.returns
returns c = excludes
