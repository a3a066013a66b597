use Rattle.certificates.proofs.Raised.{extended}
use Rattle.certificates.proofs.labels_extend_to_a_certificate.Goals as goal

pub returns : goal.returns
returns c = extended
