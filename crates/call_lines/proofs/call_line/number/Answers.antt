use Rattle.std.proofs.lemmas.Fmt.{parse-decimal}
use Rattle.call_lines.proofs.call_line.number.Goals as goal

pub returns : goal.returns
returns c = λ n h e. rw (parse-decimal 64 n c.args.text.now c.parse.result h h e c.parse.ensures.value.0) at c.ok.ensures.value
