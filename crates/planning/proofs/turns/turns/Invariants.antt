use Rattle.std.proofs.Common.{◌≡◌}
use Rattle.planning.specs.Tables.{SameTables}
use Rattle.planning.specs.States.{Prepared, Underway}
use Rattle.planning.proofs.turns.turns.Given as goal

-- so many bikes are over, and the cut is not written yet
abbrev pub invariant-loop-over : goal.invariant-loop-over
invariant-loop-over g l =
    let net = g.N.Network.meaning l.net in
    Prepared net l.tables × Underway net l.standing l.tables.draft l.over × SameTables l.initial.tables l.tables × (l.cut ≡ l.initial.cut)

abbrev pub decreases-loop-over : goal.decreases-loop-over
decreases-loop-over g l = l.over
