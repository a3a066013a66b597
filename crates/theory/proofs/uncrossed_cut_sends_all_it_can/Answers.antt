use Rattle.theory.proofs.Cuts
use Rattle.theory.proofs.uncrossed_cut_sends_all_it_can.Goals as goal

pub returns : goal.returns
returns g c = Cuts.sends
