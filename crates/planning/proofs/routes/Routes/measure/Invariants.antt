use Rattle.std.proofs.Common.{◌≡◌}
use Rattle.plans.specs.Plans.{stations}
use Rattle.planning.proofs.Measuring.{Measuring}
use Rattle.planning.proofs.routes.Routes.measure.Given as goal

-- the last steps from the station on have room
abbrev pub invariant-loop-turn : goal.invariant-loop-turn
invariant-loop-turn g l = (l._turn-end ≡ stations (g.N.Network.meaning l.self.net.now)) × Measuring (g.N.Network.meaning l.self.net.now) l.self.standing.now l.draft.amounts.now l.self.labels.now l.target l._turn l.at l.room
