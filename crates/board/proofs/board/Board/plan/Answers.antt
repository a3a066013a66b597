use Rattle.std.proofs.Common.{◌≡◌, length, ◌∙◌, arith, length-take}
use Rattle.std.proofs.lemmas.List.{take_at}
use Rattle.std.proofs.lemmas.Result.{err_from_is_err_and}
use Rattle.board.proofs.Planning.{plans_follow, plan_refused}
use Rattle.board.proofs.board.Board.plan.Goals as goal

pub returns-in_err-answer-clause-rules : goal.returns-in_err-answer-clause-rules
returns-in_err-answer-clause-rules g c =
    let p = err_from_is_err_and c.from_residual.result c.from_residual.ensures.1 in
    rw (p.1, p.2) (plan_refused c.legs-legs.result (g.N.Network.meaning c.args.self.now.net) c.args.self.now.plan _ _ _ _ _ _ _ _ c.plan.new.tables.draft.amounts.now c.in_err-answer.ensures.planned)

pub returns-clause-rules : goal.returns-clause-rules
returns-clause-rules g c =
    let long : length c.copy_from_slice.new.self ≡ c.legs-legs.result = omega (arith, c.copy_from_slice.auto.self, length-take c.legs-legs.result c.args.self.now.plan) in
    plans_follow c.legs-legs.result (g.N.Network.meaning c.args.self.now.net) c.args.self.now.plan _ _ _ _ c.in_ok-answer.answer _ _ _ _ c.plan.new.tables.draft.amounts.now
    c.legs-legs.ensures c.in_ok-answer.ensures.planned (take_at c.copy_from_slice.new.self _ c.legs-legs.result long ∙ c.copy_from_slice.ensures.after)
