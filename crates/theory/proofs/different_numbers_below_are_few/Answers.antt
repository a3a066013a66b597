use Rattle.theory.proofs.Pigeons
use Rattle.theory.proofs.different_numbers_below_are_few.Goals as goal

pub returns : goal.returns
returns c = Pigeons.few
