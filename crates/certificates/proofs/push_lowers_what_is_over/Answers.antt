use Rattle.certificates.proofs.Moved.{lowers_over}
use Rattle.certificates.proofs.push_lowers_what_is_over.Goals as goal

pub returns : goal.returns
returns c = lowers_over
