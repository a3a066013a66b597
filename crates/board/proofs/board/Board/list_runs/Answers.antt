use Rattle.std.proofs.Common.{◌≤◌, length, rules}
use Rattle.board.proofs.Calls.{runs_follow}
use Rattle.board.proofs.board.Board.list_runs.Goals as goal

pub returns-clause-rules : goal.returns-clause-rules
returns-clause-rules g c =
    let few = (g.N.Network.limits c.args.self.now.net).few_legs in
    let room : length (g.N.Network.meaning c.args.self.now.net).legs ≤ length c.args.self.now.marks = search rules in
    λ prices. runs_follow c.legs-legs.result c.list.result (g.N.Network.meaning c.args.self.now.net) c.args.self.now.plan _ _ _ _ _ _ _ prices c.legs-legs.ensures few room c.list.ensures
