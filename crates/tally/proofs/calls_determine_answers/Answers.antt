use Rattle.tally.proofs.Agreeing.{agreed}
use Rattle.tally.proofs.calls_determine_answers.Goals as goal

pub returns : goal.returns
returns c = agreed
