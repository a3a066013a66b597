use Rattle.std.proofs.Common.{◌≡◌}
use Rattle.planning.specs.Drafts.{SameDraft}
use Rattle.planning.specs.Rounds.{sendings_of, after_all}
use Rattle.planning.proofs.Sending.{SendsBelow}
use Rattle.planning.proofs.sendings.send_all.Given as goal

-- bikes were sent to the stations below
abbrev pub invariant-loop-target : goal.invariant-loop-target
invariant-loop-target g l =
    let routes = l.routes in
    record {
      sends : SendsBelow (g.N.Network.meaning routes.net.now) routes.standing.now routes.labels.now l.initial.over l.initial.draft l.target l.over l.draft;
      outcome : sendings_of l.over l.draft ≡ after_all (g.N.Network.meaning routes.net.now) routes.standing.now routes.labels.now l.target (sendings_of l.initial.over l.initial.draft);
      stay : SameDraft l.initial.draft l.draft;
    }
