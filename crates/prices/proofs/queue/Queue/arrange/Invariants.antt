use Rattle.prices.specs.Queues.{SameQueue}
use Rattle.prices.proofs.queue.Queue.arrange.Given as goal

abbrev pub invariant-loop-place : goal.invariant-loop-place
invariant-loop-place l = SameQueue l.initial.self l.self
