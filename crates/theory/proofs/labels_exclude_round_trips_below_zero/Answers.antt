use Rattle.theory.specs.Walks.{Passes, Among}
use Rattle.theory.proofs.Walking
use Rattle.theory.proofs.labels_exclude_round_trips_below_zero.Goals as goal

pub returns : goal.returns
returns g c = λ f r es d L. Walking.no_trip g.K.Grouped.group (Passes f) (Among es) (Passes r) d L
