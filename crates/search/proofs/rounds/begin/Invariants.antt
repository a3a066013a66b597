use Rattle.std.proofs.Common.{◌≡◌, ℕ, ◌<◌}
use Rattle.search.specs.Labels.{begun, label_at}
use Rattle.search.proofs.rounds.begin.Given as goal

-- the labels below are written
abbrev pub invariant-loop-station : goal.invariant-loop-station
invariant-loop-station g l = (v : ℕ) → v < l.station → label_at l.labels v ≡ begun (g.S.Belongs.belongs l.starts v) l.zero
