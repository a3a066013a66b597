use Rattle.theory.proofs.Duality
use Rattle.theory.proofs.undercut_by_no_step_is_cheapest.Goals as goal

pub returns : goal.returns
returns g c = Duality.cheapest g.K.Grouped.group
