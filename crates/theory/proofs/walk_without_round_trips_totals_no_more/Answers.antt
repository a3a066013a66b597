use Rattle.theory.specs.Walks.{Passes, Among}
use Rattle.theory.proofs.Walking
use Rattle.theory.proofs.walk_without_round_trips_totals_no_more.Goals as goal

pub returns : goal.returns
returns g c = λ f es v us t w. Walking.shorten g.K.Grouped.group (Passes f) (Among es) w
