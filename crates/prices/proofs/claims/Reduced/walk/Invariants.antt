use Rattle.prices.specs.Queues.{SameQueue}
use Rattle.prices.proofs.claims.Reduced.walk.Given as goal

abbrev pub invariant-loop-leg : goal.invariant-loop-leg
invariant-loop-leg g l = SameQueue l.initial.queue l.queue
