use Rattle.steps.proofs.Paying.{cents_same}
use Rattle.steps.proofs.fees.in_cents_are_step_cents.Goals as goal

pub returns : goal.returns
returns c = cents_same
