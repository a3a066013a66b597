use Rattle.std.proofs.Common.{◌≡◌}
use Rattle.plans.specs.Plans.{stations}
use Rattle.planning.proofs.Going.{Going}
use Rattle.planning.proofs.routes.Routes.push_along.Given as goal

-- the bikes have gone along the last steps from the station on
abbrev pub invariant-loop-turn : goal.invariant-loop-turn
invariant-loop-turn g l = (l._turn-end ≡ stations (g.N.Network.meaning l.self.net.now)) × Going (g.N.Network.meaning l.self.net.now) l.self.labels.now l.bikes l.target l._turn l.at l.initial.plan l.plan
