use Rattle.call_lines.proofs.Texts.{split_call}
use Rattle.call_lines.proofs.call_line.guessed.Goals as goal

pub returns : goal.returns
returns c = λ call t e.
    let s = split_call call c.args.text.now c.split_once.result c.split_once.ensures.cases e in
    let parts = rw c.in_ok-word.was at s in
    c.call_by.ensures call t parts.0 parts.1
