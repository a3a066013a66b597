use Rattle.std.proofs.Common.{◌≡◌, ◌<◌, length, take, None, refl, rules}
use Rattle.std.proofs.lemmas.List.{drop-set-lt, length-set}
use Rattle.network.specs.Offices.{report_fault}
use Rattle.table.proofs.Writes.{report_clear, report_there, report_writes}
use Rattle.table.proofs.TableOffice.report.Goals as goal

clear : (c : goal.In_ok-check_report) → report_fault (length (take 240 c.args.self.now.stations.now)) c.args.station c.args.balance ≡ None
clear c = report_clear _ _ _ _ c.open_stations.ensures c.ranges.balance c.in_ok-check_report.ensures

pub bounds-self-station : goal.bounds-self-station
bounds-self-station c = (report_there _ _ c.args.balance (clear c)).0

pub offset_bounds-self-station : goal.offset_bounds-self-station
offset_bounds-self-station c = let h : c.args.station < 240 = (report_there _ _ c.args.balance (clear c)).1 in search rules

pub returns : goal.returns
returns c =
    let e : report_fault (length (take 240 c.args.self.now.stations.now)) c.args.station c.args.balance ≡ None =
    report_clear _ _ _ _ c.open_stations.ensures c.ranges.balance c.in_ok-check_report.ensures in
    record {
      answer = (e, report_writes _ _ _ _ e c.ranges.balance);
      kept = (refl, refl, refl, drop-set-lt 240 _ _ _ (report_there _ _ c.args.balance e).1, refl, length-set _ _ _);
    }
