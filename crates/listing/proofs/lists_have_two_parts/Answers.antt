use Rattle.listing.proofs.Parting.{in_two_parts}
use Rattle.listing.proofs.lists_have_two_parts.Goals as goal

pub returns : goal.returns
returns c b n earlier d = in_two_parts b n earlier d
