use Rattle.std.proofs.Common.{◌≡◌, ◌<◌, length, None, sym, ap, ◌∙◌, w32, rules}
use Rattle.std.proofs.lemmas.Int.{to_z-of_z}
use Rattle.network.specs.Offices.{report_fault}
use Rattle.promenade.proofs.Rows.{report_writes}
use Rattle.promenade.proofs.PromenadeOffice.report.Goals as goal

pub returns : goal.returns
returns c =
    let e : report_fault c.args.self.now.stations c.args.station c.args.balance ≡ None =
    sym (ap (report_fault c.args.self.now.stations c.args.station) (to_z-of_z w32 c.args.balance c.ranges.balance)) ∙ c.in_ok-check_report.ensures in
    let l : c.args.station < length c.args.self.now.balances = search rules in
    record { answer = (e, report_writes _ _ _ _ _ c.args.station c.args.balance e l c.ranges.balance); kept = tt }
