use Rattle.certificates.proofs.Balanced.{obeys}
use Rattle.certificates.proofs.nothing_left_over_obeys.Goals as goal

pub returns : goal.returns
returns c = obeys
