use Rattle.plans.proofs.Pricing.{reduced}
use Rattle.plans.proofs.prices_meet_reduced_cost.Goals as goal

pub returns : goal.returns
returns c = reduced
