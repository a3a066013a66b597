use Rattle.std.proofs.Common.{string_bytes}
use Rattle.plan_answers.proofs.Printing.{denied_printed}
use Rattle.plan_answers.proofs.answer_within.Goals as goal

pub returns-in-Err : goal.returns-in-Err
returns-in-Err g c =
    denied_printed c.refusal_text.result string_bytes (g.N.Network.meaning c.args.net.now) _ c.in-Err.refusal _ _ _ _ c.in-Err.ensures.planned c.refusal_text.ensures
