use Rattle.certificates.proofs.Moved.{sent_along}
use Rattle.certificates.proofs.push_changes_only_the_ends.Goals as goal

pub returns : goal.returns
returns c = sent_along
