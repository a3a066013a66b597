use Rattle.listing.proofs.Entering.{keeps_order}
use Rattle.listing.proofs.lists_keep_their_order.Goals as goal

pub returns : goal.returns
returns c b n earlier d = keeps_order b n earlier d
