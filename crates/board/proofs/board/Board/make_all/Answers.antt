use Rattle.std.proofs.Common.{◌≡◌, ◌<◌, length, refl, arith, rules}
use Rattle.planning.proofs.Keeping.{same_tables, same_twice}
use Rattle.board.specs.Running.{lent_by}
use Rattle.board.specs.Views.{tally_of}
use Rattle.board.proofs.Stepping.{going_none, going_more, has_room, same_sheet, sheet_twice, given_stays}
use Rattle.board.proofs.board.Board.make_all.Goals as goal

pub loop-i-init : goal.loop-i-init
loop-i-init g c =
    let p : c.default-at.result.prices ≡ 0 = search rules in
    let n : c.default-at.result.numbers ≡ 0 = search rules in
    let a : c.default-at.result.amounts ≡ 0 = search rules in
    record {
      going = going_none (g.N.Network.meaning c.args.self.now.net) (tally_of g.N.Network.meaning c.args.self.now) c.args.calls.now c.args.answers.now (lent_by c.args.sheet.now) c.default-at.result refl p n a;
      stays = record { kept = g.N.Office.keeps.same _; sheet_stays = same_sheet _; tables_stay = same_tables _ };
    }

pub step-requires : goal.step-requires
step-requires g c =
    has_room _ _ _ _ _ _ _ _ _ _ _ _ c.loop-i-test.true c.loop-i.invariant.going c.requires.1 (given_stays c.loop-i.invariant.stays.sheet_stays c.loop-i.invariant.stays.tables_stay)

pub loop-i-preserved : goal.loop-i-preserved
loop-i-preserved g c =
    let was = c.loop-i.invariant.stays in
    let is = c.step.ensures.stays in
    let room : c.loop-i.i < length c.loop-i.answers = omega (arith, c.loop-i.auto.answers, c.loop-i-test.true, c.requires.0) in
    record {
      going = going_more _ _ _ _ _ _ _ _ _ _ _ _ _ _ room c.loop-i.invariant.going c.step.ensures.makes c.step.ensures.moves;
      stays = record {
        kept = g.N.Office.keeps.more _ _ _ was.kept is.kept;
        sheet_stays = sheet_twice was.sheet_stays is.sheet_stays;
        tables_stay = same_twice was.tables_stay is.tables_stay;
      };
    }
