use Rattle.theory.specs.Walks.{Passes, Among}
use Rattle.theory.proofs.Walking
use Rattle.theory.proofs.prices_meet_reduced_costs.Goals as goal

pub returns : goal.returns
returns g c = λ f es. Walking.reduced g.K.Grouped.group (Passes f) (Among es)
