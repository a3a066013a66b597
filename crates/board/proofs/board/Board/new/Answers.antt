use Rattle.board.proofs.Calls.{new_is_fresh}
use Rattle.board.proofs.board.Board.new.Goals as goal

pub returns-clause-tally : goal.returns-clause-tally
returns-clause-tally g c = new_is_fresh (g.N.Network.meaning c.args.net) c.new.result c.new-2.result c.new.ensures c.new-2.ensures (g.N.Network.limits c.args.net).few_legs
