use Rattle.std.proofs.Common.{◌≡◌, ◌<◌, get_or, pos, sym, subst, arith, w64, SFits, rules}
use Rattle.planning.specs.Sends.{Sends}
use Rattle.planning.specs.Sendable.{IsMostSendable, bikes_sent, contents_of}
use Rattle.planning.proofs.Reaching.{most_sendable}
use Rattle.planning.specs.Routes.{Along}
use Rattle.planning.proofs.Spending.{spends, fits_room, has_of, lacks_of, never_lost, never_spent, sends_some}
use Rattle.planning.proofs.routes.Routes.send.Goals as goal

pub returns-in_default-clause-sends : goal.returns-in_default-clause-sends
returns-in_default-clause-sends g c =
    let r = c.args.self.now in
    never_lost (g.N.Network.meaning r.net.now) r.standing.now r.labels.now c.args.target c.args.draft.now c.in_default.ensures.finds

pub returns-then-bikes-eq0-clause-sends : goal.returns-then-bikes-eq0-clause-sends
returns-then-bikes-eq0-clause-sends g c =
    let r = c.args.self.now in
    let q = c.in-Some.reach in
    let f1 : SFits w64 c.left_at.result = search rules in
    let f2 : SFits w64 c.left_at-2.result = search rules in
    let f3 : SFits w64 c.saturating_neg.result = search rules in
    let p = spends q.room c.spare-spare_there.result c.spare-bikes.result _ _ _ _ _ f1 f2 f3 c.left_at.ensures c.left_at-2.ensures c.saturating_neg.ensures c.spare-spare_there.ensures c.spare-bikes.ensures in
    never_spent (g.N.Network.meaning r.net.now) r.standing.now r.labels.now c.args.target c.args.draft.now q.room q.start c.in-Some.ensures.finds.1 c.spare-spare_there.result c.spare-bikes.result c.in-Some.ensures.finds.0 p c.if-bikes-eq0.true

pub returns-clause-sends : goal.returns-clause-sends
returns-clause-sends g c =
    let r = c.args.self.now in
    let net = g.N.Network.meaning r.net.now in
    let left = c.args.draft.now.left.now in
    let q = c.in-Some.reach in
    let b = c.spare-bikes.result in
    let f1 : SFits w64 c.left_at.result = search rules in
    let f2 : SFits w64 c.left_at-2.result = search rules in
    let f3 : SFits w64 c.saturating_neg.result = search rules in
    let p = spends q.room c.spare-spare_there.result b _ _ _ (get_or left q.start (pos 0)) (get_or left c.args.target (pos 0)) f1 f2 f3 c.left_at.ensures c.left_at-2.ensures c.saturating_neg.ensures c.spare-spare_there.ensures c.spare-bikes.ensures in
    let h : 0 < b = omega arith in
    let f4 : SFits w64 (get_or left q.start (pos 0)) = subst (SFits w64) c.left_at.ensures f1 in
    let f5 : SFits w64 (get_or left c.args.target (pos 0)) = subst (SFits w64) c.left_at-2.ensures f2 in
    let along = subst (Along net r.labels.now b c.args.target c.args.draft.now.amounts.now) (sym c.hand_over.ensures.amounts) c.push_along.ensures in
    subst (λ s. Sends net r.standing.now r.labels.now c.args.target s c.args.draft.now c.hand_over.new.self) (sym c.from.ensures)
    (sends_some net r.standing.now r.labels.now c.args.target c.args.draft.now q.room q.start c.in-Some.ensures.finds.1 b c.hand_over.new.self (fits_room _ _ _ _ _ p) h (has_of _ _ _ _ _ p h) (lacks_of _ _ _ _ _ p h) f4 f5 along c.hand_over.ensures.handed)

pub returns-in_default-clause-most : goal.returns-in_default-clause-most
returns-in_default-clause-most g c old f z =
    let r = c.args.self.now in
    let net = g.N.Network.meaning r.net.now in
    let held = contents_of c.args.draft.now in
    let e : 0 ≡ bikes_sent net r.standing.now r.labels.now c.args.target held = search rules in
    subst (λ b. IsMostSendable net r.standing.now r.labels.now c.args.target b held) (sym e) (most_sendable net r.standing.now r.labels.now c.args.target held old f z)

pub returns-then-bikes-eq0-clause-most : goal.returns-then-bikes-eq0-clause-most
returns-then-bikes-eq0-clause-most g c old f z =
    let r = c.args.self.now in
    let net = g.N.Network.meaning r.net.now in
    let held = contents_of c.args.draft.now in
    let e : 0 ≡ bikes_sent net r.standing.now r.labels.now c.args.target held = search rules in
    subst (λ b. IsMostSendable net r.standing.now r.labels.now c.args.target b held) (sym e) (most_sendable net r.standing.now r.labels.now c.args.target held old f z)

pub returns-clause-most : goal.returns-clause-most
returns-clause-most g c old f z =
    let r = c.args.self.now in
    let net = g.N.Network.meaning r.net.now in
    let held = contents_of c.args.draft.now in
    let e : c.from.result ≡ bikes_sent net r.standing.now r.labels.now c.args.target held = search rules in
    subst (λ b. IsMostSendable net r.standing.now r.labels.now c.args.target b held) (sym e) (most_sendable net r.standing.now r.labels.now c.args.target held old f z)
