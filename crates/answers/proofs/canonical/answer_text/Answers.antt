use Rattle.std.proofs.Common.{string_bytes}
use Rattle.answers.proofs.Telling.{told, told_of_text}
use Rattle.answers.proofs.canonical.answer_text.Goals as goal

pub returns-clause-bytes : goal.returns-clause-bytes
returns-clause-bytes c = told c.answer_by.result string_bytes _ c.answer_by.ensures.bytes

pub returns-clause-prints : goal.returns-clause-prints
returns-clause-prints c = told_of_text c.answer_by.result string_bytes c.args.text.now c.answer_by.ensures.prints
