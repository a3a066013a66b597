use Rattle.std.proofs.Common.{w64, SFits, rules}
use Rattle.planning.proofs.Seeing.{shown_sum, shown_sums}
use Rattle.planning.proofs.routes.is_sum.Goals as goal

pub returns-then-eq : goal.returns-then-eq
returns-then-eq c =
    let t = c.args.total in
    let a = c.args.one in
    let b = c.args.other in
    let f1 : SFits w64 t.first.0 = search rules in
    let f2 : SFits w64 a.first.0 = search rules in
    let f3 : SFits w64 b.first.0 = search rules in
    let f4 : SFits w64 t.second.0 = search rules in
    let f5 : SFits w64 a.second.0 = search rules in
    let f6 : SFits w64 b.second.0 = search rules in
    shown_sums _ _ _ _ (shown_sum _ _ _ _ _ f1 f2 f3 c.checked_add.ensures c.eq.ensures) c.if-eq.true (shown_sum _ _ _ _ _ f4 f5 f6 c.checked_add-then-eq.ensures c.eq-then-eq.ensures)
