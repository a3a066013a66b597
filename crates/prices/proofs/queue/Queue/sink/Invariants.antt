use Rattle.prices.specs.Queues.{SameQueue}
use Rattle.prices.proofs.queue.Queue.sink.Given as goal

abbrev pub invariant-loop-level : goal.invariant-loop-level
invariant-loop-level l = SameQueue l.initial.self l.self
