use Rattle.std.proofs.Common.{◌≡◌, refl, sym, rules}
use Rattle.std.proofs.lemmas.Option.{get_or_from_slice_get}
use Rattle.records.specs.Cleared.{cleared_leg}
use Rattle.plans.specs.Plans.{amount, leg_at}
use Rattle.planning.proofs.Leaving.{left_more, left_still}
use Rattle.planning.proofs.mend.leaving.carry.Goals as goal

pub returns-then-bikes-eq0-clause-left : goal.returns-then-bikes-eq0-clause-left
returns-then-bikes-eq0-clause-left g c =
    left_still (g.N.Network.meaning c.args.net.now) c.args.number (amount c.args.draft.now.amounts.now c.args.number) c.args.draft.now.amounts.now c.args.draft.now.left.now c.requires.left refl (search rules)

pub returns-clause-left : goal.returns-clause-left
returns-clause-left g c =
    let net = g.N.Network.meaning c.args.net.now in
    let e : leg_at net c.args.number ≡ c.in-Some.leg = get_or_from_slice_get net.legs c.args.number c.in-Some.leg cleared_leg (sym c.in-Some.ensures) in
    left_more net c.args.number _ c.from.result c.from-2.result c.in-Some.leg c.args.draft.now.amounts.now c.args.draft.now.left.now c.hand_over.new.self.left.now (g.N.Network.limits c.args.net.now) c.requires.left c.requires.there e c.from.ensures c.from-2.ensures (search rules) (search rules) c.hand_over.ensures.handed
