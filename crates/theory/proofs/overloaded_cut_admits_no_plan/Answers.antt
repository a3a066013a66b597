use Rattle.theory.proofs.Cuts
use Rattle.theory.proofs.overloaded_cut_admits_no_plan.Goals as goal

pub returns : goal.returns
returns g c = Cuts.cut
