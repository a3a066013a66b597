use Rattle.theory.proofs.Cycles
use Rattle.theory.proofs.round_trip_below_zero_is_a_trail.Goals as goal

pub returns : goal.returns
returns g c = λ d ls xs. Cycles.around g.K.Grouped.group d ls xs
