use Rattle.std.proofs.Common.{w32}
use Rattle.std.proofs.lemmas.Fmt.{parse-signed_decimal}
use Rattle.call_lines.proofs.Texts.{small_mag}
use Rattle.call_lines.proofs.call_line.balance.Goals as goal

pub returns : goal.returns
returns c = λ z h e. rw (parse-signed_decimal w32 z c.args.text.now c.parse.result h (small_mag z h) e c.parse.ensures.value.0) at c.ok.ensures.value
