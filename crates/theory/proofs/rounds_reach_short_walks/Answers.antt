use Rattle.theory.specs.Walks.{Passes, Among}
use Rattle.theory.proofs.Walking
use Rattle.theory.proofs.rounds_reach_short_walks.Goals as goal

pub returns : goal.returns
returns g c = λ f es d E k v us t w l. Walking.within g.K.Grouped.group (Passes f) (Among es) _ E k w l
