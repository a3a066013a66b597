use Rattle.tally.proofs.Agreeing.{computed}
use Rattle.tally.proofs.tallies_are_computed.Goals as goal

pub returns : goal.returns
returns c = computed
