use Rattle.plans.proofs.Cutting.{is_cut}
use Rattle.plans.proofs.uncrossed_stations_are_a_cut.Goals as goal

pub returns : goal.returns
returns c = is_cut
