-- What is written is ASCII, so it is text.
use Rattle.std.proofs.Common.{◌≡◌, ◌+◌, drop, arith, rules}
use Rattle.plan_answers.proofs.Spelling.{ended, fields, leg_text, spelled}
use Rattle.plan_answers.proofs.answer_lines.write_leg.Goals as goal

pub returns-clause-appends : goal.returns-clause-appends
returns-clause-appends c =
    let leg = c.args.leg.now in
    let written : drop c.put_number-source.result c.put_number-source.new.line ≡ fields (leg.start + 1) (leg.end + 1) c.args.bikes = search (rules, ended c.args.line.now (omega arith)) in
    let text = spelled c.put_number-source.new.line (fields (leg.start + 1) (leg.end + 1) c.args.bikes) c.put_number-source.result (omega arith) (omega arith) (omega arith) written in
    search rules

pub returns-clause-text : goal.returns-clause-text
returns-clause-text c =
    let leg = c.args.leg.now in
    leg_text (leg.start + 1) (leg.end + 1) c.args.bikes (omega arith) (omega arith) (omega arith)
