use Rattle.std.proofs.Common.{w32, SFits, rules}
use Rattle.tally.specs.Follows.{papers}
use Rattle.board.proofs.Making.{report_named}
use Rattle.board.proofs.board.Board.make.Goals as goal

pub returns-in-Report-clause-rules : goal.returns-in-Report-clause-rules
returns-in-Report-clause-rules g c =
    let fits : SFits w32 c.in-Report.balance = search rules in
    let named = report_named c.in-Report.station c.in-Report.balance fits c.in-Report.is in
    rw (named, c.into.ensures) (c.report.ensures.rules (papers c.args.prices.now c.args.numbers.now))
