use Rattle.theory.proofs.Adding
use Rattle.theory.proofs.sums_over_stations_are_sums_over_legs.Goals as goal

pub returns : goal.returns
returns g c = Adding.exchange g.K.Grouped.group
