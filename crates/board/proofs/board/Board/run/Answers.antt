use Rattle.std.proofs.Common.{◌≤◌, length, rules}
use Rattle.board.specs.Running.{Fits, given, lent_by}
use Rattle.board.proofs.Finishing.{ran_all}
use Rattle.board.proofs.board.Board.run.Goals as goal

pub returns-clause-ran : goal.returns-clause-ran
returns-clause-ran g c =
    let room : length c.args.calls.now ≤ length c.args.answers.now = search rules in
    let fits : Fits (length (g.N.Network.meaning c.args.self.now.net).legs) c.args.calls.now (length c.args.calls.now) (given (lent_by c.args.sheet.now) c.args.tables.now) = search rules in
    ran_all _ _ _ _ _ _ _ _ _ room fits c.make_all.ensures.all
