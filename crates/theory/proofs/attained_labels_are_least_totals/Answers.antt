use Rattle.theory.specs.Walks.{Passes, Among}
use Rattle.theory.proofs.Walking
use Rattle.theory.proofs.attained_labels_are_least_totals.Goals as goal

pub returns : goal.returns
returns g c = λ f r es d L v us w. (Walking.least_total g.K.Grouped.group (Passes f) (Among es) (Passes r) d L v us w, Walking.price g.K.Grouped.group (Passes f) (Among es) (Passes r) d L v us w)
