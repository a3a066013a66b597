use Rattle.theory.specs.Walks.{Passes, Among}
use Rattle.theory.proofs.Walking
use Rattle.theory.proofs.prices_are_least_totals.Goals as goal

pub returns : goal.returns
returns g c = λ f es none v s t. (Walking.price_least g.K.Grouped.group (Passes f) (Among es) none v s, Walking.least_price g.K.Grouped.group (Passes f) (Among es) none v s, Walking.price_unique g.K.Grouped.group (Passes f) (Among es) v s t)
