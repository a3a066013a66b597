use Rattle.theory.proofs.Relaxing
use Rattle.theory.proofs.least_totals_exist.Goals as goal

pub returns : goal.returns
returns g c = Relaxing.exists g.K.Grouped.group
