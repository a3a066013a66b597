use Rattle.std.proofs.Common.{◌≡◌}
use Rattle.planning.specs.Drafts.{SameDraft}
use Rattle.planning.specs.Leavings.{Left}
use Rattle.planning.proofs.mend.leaving.carry_all.Given as goal

-- the bikes of the legs below have gone
abbrev pub invariant-loop-number : goal.invariant-loop-number
invariant-loop-number g l = Left (g.N.Network.meaning l.net) l.draft.amounts.now l.number l.draft.left.now × (l.draft.amounts.now ≡ l.initial.draft.amounts.now) × SameDraft l.initial.draft l.draft
