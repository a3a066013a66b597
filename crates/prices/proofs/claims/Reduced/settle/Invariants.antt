use Rattle.prices.specs.Queues.{SameQueue}
use Rattle.prices.proofs.claims.Reduced.settle.Given as goal

abbrev pub invariant-loop-taken : goal.invariant-loop-taken
invariant-loop-taken g l = SameQueue l.initial.queue l.queue
