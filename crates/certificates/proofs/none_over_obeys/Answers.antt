use Rattle.certificates.proofs.Balanced.{none_over}
use Rattle.certificates.proofs.none_over_obeys.Goals as goal

pub returns : goal.returns
returns c = none_over
