use Rattle.certificates.proofs.Kept.{rooms}
use Rattle.certificates.proofs.rooms_suffice.Goals as goal

pub returns : goal.returns
returns c = rooms
