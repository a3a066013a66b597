use Rattle.std.proofs.Common.{string_bytes, ◌∙◌}
use Rattle.plan_answers.proofs.Printing.{whole_printed}
use Rattle.plan_answers.proofs.network_answer.Goals as goal

pub returns : goal.returns
returns g c =
    whole_printed c.answer_within.result string_bytes (g.N.Network.meaning c.args.net.now) _ _ _
    (c.as_mut_slice.ensures.len ∙ c.in_ok-prices.ensures.len)
    (c.as_mut_slice-2.ensures.len ∙ c.in_ok-cut.ensures.len)
    (c.lend-tables.ensures.entries 240 3000 c.in_ok-workspace.ensures.holds) c.answer_within.ensures
