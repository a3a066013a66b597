use Rattle.yard.proofs.Passing.{marks_above}
use Rattle.yard.proofs.YardOffice.set_mark.Goals as goal

pub returns : goal.returns
returns g c =
    let n = g.N.Network.meaning c.args.self.now.below in
    let m = g.N.Network.meaning c.set_mark.new.self in
    let w = g.N.Network.limits c.args.self.now.below in
    record { answer = marks_above c.args.self.now.charge n w c.set_mark.result m c.args.leg c.args.mark c.set_mark.ensures.answer; kept = c.set_mark.ensures.kept }
