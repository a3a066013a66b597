use Rattle.std.proofs.Common.{◌∙◌, string_bytes}
use Rattle.answers.proofs.Answering.{table_printed, fall_printed, made_prints}
use Rattle.piles.specs.Piles.{layered}
use Rattle.day.specs.Days.{Day}
use Rattle.day.proofs.days.text_day.Goals as goal

pub returns-in-Ok-clause-bytes : goal.returns-in-Ok-clause-bytes
returns-in-Ok-clause-bytes c =
    table_printed c.layered_day.result string_bytes c.args.text.now (λ net. Day (layered c.args.second (layered c.args.first net)) c.args.input.now) _ _
    (c.as_mut_slice.ensures.len ∙ c.in_ok-legs.ensures.len) (c.as_mut_slice-2.ensures.len ∙ c.in_ok-stations.ensures.len)
    _ c.in-Ok.ensures c.layered_day.ensures

pub returns-in-Ok-clause-prints : goal.returns-in-Ok-clause-prints
returns-in-Ok-clause-prints c =
    made_prints c.layered_day.result string_bytes c.args.text.now _ (returns-in-Ok-clause-bytes c)

pub returns-clause-bytes : goal.returns-clause-bytes
returns-clause-bytes c =
    fall_printed c.refusal_text.result string_bytes c.args.text.now (λ net. Day (layered c.args.second (layered c.args.first net)) c.args.input.now) _ _
    (c.as_mut_slice.ensures.len ∙ c.in_ok-legs.ensures.len) (c.as_mut_slice-2.ensures.len ∙ c.in_ok-stations.ensures.len)
    _ c.in-Err.ensures c.refusal_text.ensures

pub returns-clause-prints : goal.returns-clause-prints
returns-clause-prints c =
    made_prints c.refusal_text.result string_bytes c.args.text.now _ (returns-clause-bytes c)
