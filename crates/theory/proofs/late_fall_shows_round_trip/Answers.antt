use Rattle.theory.specs.Walks.{Passes, Among}
use Rattle.theory.proofs.Walking
use Rattle.theory.proofs.late_fall_shows_round_trip.Goals as goal

pub returns : goal.returns
returns g c = λ f es d E m b v h us t w i. Walking.shows_trip g.K.Grouped.group (Passes f) (Among es) _ E m b (λ u s r l. Walking.at_most_up g.K.Grouped.group (d m u) s r l) v h us t w i
