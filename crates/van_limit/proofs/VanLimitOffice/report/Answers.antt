use Rattle.network.proofs.Faults.{passed_on}
use Rattle.van_limit.proofs.Passing.{reports_above}
use Rattle.van_limit.proofs.VanLimitOffice.report.Goals as goal

pub returns : goal.returns
returns g c =
    let n = g.N.Network.meaning c.args.self.now.below in
    let m = g.N.Network.meaning c.report.new.self in
    let h = passed_on c.report.result n m c.args.station c.args.balance c.ranges.balance c.report.ensures.answer in
    record { answer = reports_above c.args.self.now.limit c.report.result n m c.args.station c.args.balance h; kept = c.report.ensures.kept }
