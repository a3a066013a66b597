use Rattle.theory.proofs.Duality
use Rattle.theory.proofs.convex_leg_is_least_where_tight.Goals as goal

pub returns : goal.returns
returns g c = Duality.least g.K.Grouped.group
