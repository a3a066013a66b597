use Rattle.tally.proofs.answer.AnswerDisplay.fmt.Goals as goal

pub returns-in-Planned-clause-writes : goal.returns-in-Planned-clause-writes
returns-in-Planned-clause-writes g c = rw c.in-Planned.is c.write-in-Planned.ensures.writes
