use Rattle.plans.proofs.Pricing.{exists, least}
use Rattle.plans.proofs.prices_exist.Goals as goal

pub returns : goal.returns
returns c = λ net plan none v h. let r = exists net plan none v h in (r.0, r.1, least net plan none v r.0 r.1)
