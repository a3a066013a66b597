use Rattle.certificates.proofs.Kept.{kept}
use Rattle.certificates.proofs.push_along_a_tight_step_keeps_the_certificate.Goals as goal

pub returns : goal.returns
returns c = kept
