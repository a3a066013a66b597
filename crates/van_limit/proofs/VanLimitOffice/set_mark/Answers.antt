use Rattle.van_limit.proofs.Passing.{marks_above}
use Rattle.van_limit.proofs.VanLimitOffice.set_mark.Goals as goal

pub returns : goal.returns
returns g c =
    let n = g.N.Network.meaning c.args.self.now.below in
    let m = g.N.Network.meaning c.set_mark.new.self in
    let w = g.N.Network.limits c.args.self.now.below in
    record { answer = marks_above c.args.self.now.limit c.set_mark.result n m c.args.leg c.args.mark w c.set_mark.ensures.answer; kept = c.set_mark.ensures.kept }
