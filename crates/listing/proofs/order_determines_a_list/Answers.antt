use Rattle.listing.proofs.Determining.{determined}
use Rattle.listing.proofs.order_determines_a_list.Goals as goal

pub returns : goal.returns
returns c b n earlier now d o = determined b n earlier now d o
