use Rattle.planning.proofs.Gathering.{Gathered}
use Rattle.planning.proofs.cut.write_cut.Given as goal

-- the reached stations below are written
abbrev pub invariant-loop-station : goal.invariant-loop-station
invariant-loop-station l = Gathered l.station l.labels l.count l.initial.cut l.cut
