use Rattle.std.proofs.Common.{◌<◌, length, rules}
use Rattle.promenade.proofs.Rows.{mark_writes}
use Rattle.promenade.proofs.PromenadeOffice.set_mark.Goals as goal

pub returns : goal.returns
returns c =
    let e = c.in_ok-check_mark.ensures in
    let l : c.args.leg < length c.args.self.now.marks = search rules in
    let s = c.args.self.now in
    record { answer = (e, mark_writes s.stations s.capacity s.charge s.balances s.marks c.args.leg c.args.mark e l); kept = tt }
