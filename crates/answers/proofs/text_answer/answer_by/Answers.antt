use Rattle.std.proofs.Common.{◌∙◌, string_bytes}
use Rattle.answers.proofs.Answering.{table_printed, fall_printed, made_prints}
use Rattle.answers.proofs.text_answer.answer_by.Goals as goal

pub returns-in-Ok-clause-bytes : goal.returns-in-Ok-clause-bytes
returns-in-Ok-clause-bytes g c =
    table_printed c.answer.result string_bytes c.args.text.now g.A.NetworkAnswer.prints _ _
    (c.as_mut_slice.ensures.len ∙ c.in_ok-legs.ensures.len) (c.as_mut_slice-2.ensures.len ∙ c.in_ok-stations.ensures.len)
    _ c.in-Ok.ensures c.answer.ensures

pub returns-in-Ok-clause-prints : goal.returns-in-Ok-clause-prints
returns-in-Ok-clause-prints g c =
    made_prints c.answer.result string_bytes c.args.text.now _ (returns-in-Ok-clause-bytes g c)

pub returns-clause-bytes : goal.returns-clause-bytes
returns-clause-bytes g c =
    fall_printed c.refusal_text.result string_bytes c.args.text.now g.A.NetworkAnswer.prints _ _
    (c.as_mut_slice.ensures.len ∙ c.in_ok-legs.ensures.len) (c.as_mut_slice-2.ensures.len ∙ c.in_ok-stations.ensures.len)
    _ c.in-Err.ensures c.refusal_text.ensures

pub returns-clause-prints : goal.returns-clause-prints
returns-clause-prints g c =
    made_prints c.refusal_text.result string_bytes c.args.text.now _ (returns-clause-bytes g c)
