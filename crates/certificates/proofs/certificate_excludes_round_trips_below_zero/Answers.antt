use Rattle.certificates.proofs.Raised.{no_round_trip}
use Rattle.certificates.proofs.certificate_excludes_round_trips_below_zero.Goals as goal

pub returns : goal.returns
returns c = no_round_trip
