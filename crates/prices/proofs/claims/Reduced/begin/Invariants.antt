use Rattle.prices.specs.Queues.{SameQueue}
use Rattle.prices.proofs.claims.Reduced.begin.Given as goal

abbrev pub invariant-loop-station : goal.invariant-loop-station
invariant-loop-station g l = SameQueue l.initial.queue l.queue
