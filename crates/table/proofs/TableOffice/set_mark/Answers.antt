use Rattle.std.proofs.Common.{◌≡◌, ◌<◌, length, take, None, refl, rules}
use Rattle.network.specs.Offices.{mark_fault}
use Rattle.table.proofs.Writes.{mark_alone, mark_keeps, mark_there, mark_writes}
use Rattle.table.proofs.TableOffice.set_mark.Goals as goal

clear : (c : goal.In_ok-check_mark) → mark_fault (length (take 3000 c.args.self.now.legs.now)) (take 3000 c.args.self.now.legs.now) c.args.leg c.args.mark ≡ None
clear c = c.in_ok-check_mark.ensures

pub bounds-self-leg : goal.bounds-self-leg
bounds-self-leg c = (mark_there _ _ c.args.mark (clear c)).0

pub offset_bounds-self-leg : goal.offset_bounds-self-leg
offset_bounds-self-leg c = let h : c.args.leg < 3000 = (mark_there _ _ c.args.mark (clear c)).1 in search rules

pub returns : goal.returns
returns c =
    let e : mark_fault (length (take 3000 c.args.self.now.legs.now)) (take 3000 c.args.self.now.legs.now) c.args.leg c.args.mark ≡ None =
    c.in_ok-check_mark.ensures in
    record {
      answer = (e, mark_writes _ _ _ c.args.mark e);
      kept = (refl, refl, mark_keeps c.args.self.now.legs.now c.args.leg c.args.mark e, refl, mark_alone c.args.self.now.legs.now c.args.leg c.args.mark, refl);
    }
