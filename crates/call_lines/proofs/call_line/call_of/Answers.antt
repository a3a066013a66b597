use Rattle.call_lines.proofs.Texts.{utf8_text}
use Rattle.call_lines.proofs.call_line.call_of.Goals as goal

pub returns-in_default : goal.returns-in_default
returns-in_default c = λ call t e. c.in_default.ensures.cases.0 (utf8_text call c.args.line.now t e)
