-- One leg more.
use Rattle.std.proofs.Common.{IsUtf8, arith, subst, sym}
use Rattle.std.proofs.lemmas.Str.{IsUtf8-append}
use Rattle.plan_answers.proofs.Adding.{legs_added}
use Rattle.plan_answers.proofs.answer_lines.write_legs.Goals as goal

pub loop-number-preserved : goal.loop-number-preserved
loop-number-preserved g c = (
  legs_added (g.N.Network.meaning c.args.net.now) c.args.amounts.now c.loop-number.number c.amount_at.result c.in-Some.leg _ _ _
      (omega (arith, c.legs-number-end.ensures)) c.in-Some.ensures c.amount_at.ensures c.loop-number.invariant.0 c.in_ok-write_leg.ensures.appends,
  λ h. subst IsUtf8 (sym c.in_ok-write_leg.ensures.appends) (IsUtf8-append _ _ (c.loop-number.invariant.1 h) c.write_leg.ensures.text),
)
