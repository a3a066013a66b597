use Rattle.std.proofs.Common.{rules}
use Rattle.board.specs.Views.{tally_of}
use Rattle.day.proofs.memory.run_with.Goals as goal

pub returns : goal.returns
returns g c = (tally_of g.N.Network.meaning c.run-result.result.0, search (rules, c.run-result.ensures.ran))
