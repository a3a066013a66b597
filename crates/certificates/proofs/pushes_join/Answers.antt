use Rattle.certificates.proofs.Moved.{unsent, on_from_there, up_to_there}
use Rattle.certificates.proofs.pushes_join.Goals as goal

pub returns : goal.returns
returns c = λ net plan b u v w. (unsent net plan b u, on_from_there net plan b u v w, up_to_there net plan b u v w)
