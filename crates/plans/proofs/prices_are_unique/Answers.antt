use Rattle.plans.proofs.Pricing.{unique}
use Rattle.plans.proofs.prices_are_unique.Goals as goal

pub returns : goal.returns
returns c = unique
