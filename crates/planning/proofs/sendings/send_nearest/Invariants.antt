use Rattle.std.proofs.Common.{◌≡◌}
use Rattle.plans.specs.Plans.{stations}
use Rattle.planning.specs.Drafts.{SameDraft}
use Rattle.planning.specs.Rounds.{sendings_of}
use Rattle.planning.specs.States.{SendsSome}
use Rattle.planning.proofs.Rounding.{Turning}
use Rattle.planning.proofs.sendings.send_nearest.Given as goal

-- bikes were sent to some stations
abbrev pub invariant-loop-turn : goal.invariant-loop-turn
invariant-loop-turn g l =
    let net = g.N.Network.meaning l.routes.net.now in
    record {
      sends : SendsSome net l.routes.standing.now l.routes.labels.now l.initial.over l.over l.initial.draft l.draft;
      end : l.stations ≡ stations net;
      outcome : Turning net l.routes.standing.now l.routes.labels.now l.initial.marks (sendings_of l.initial.over l.initial.draft) (stations net) l._turn l.marks (sendings_of l.over l.draft);
      stay : SameDraft l.initial.draft l.draft;
    }
