use Rattle.std.proofs.Common.{◌≡◌, ℕ, Bool}
use Rattle.std.specs.Prelude.{max}
use Rattle.plans.specs.Plans.{stations}
use Rattle.search.proofs.Stepping.{SoFar}
use Rattle.search.proofs.rounds.rounds.Given as goal

-- as many rounds as counted have changed a label
abbrev pub invariant-loop-round : goal.invariant-loop-round
invariant-loop-round g l =
    (l._round-end ≡ max (stations (g.N.Network.meaning l.chained.residual.net.now)) 1)
    × ((f : ℕ → Bool) → SoFar g.C.Grouped g.C.Cost.size (g.N.Network.meaning l.chained.residual.net.now) l.chained.residual.plan.now (g.F.Fees.cost l.chained.residual.fees.now) f l._round l.initial.labels l.labels)
