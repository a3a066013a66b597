use Rattle.std.proofs.Common.{◌≡◌, ◌<◌, rules}
use Rattle.costs.specs.Kinds.{both_kind}
use Rattle.plans.specs.Plans.{stations}
use Rattle.plans.specs.Residuals.{both_group}
use Rattle.planning.specs.Sends.{Known}
use Rattle.planning.proofs.Reaching.{came}
use Rattle.planning.proofs.routes.Routes.look.Goals as goal

pub returns : goal.returns
returns g c =
    let net = g.N.Network.meaning c.args.self.now.net.now in
    let ls = c.args.self.now.labels.now in
    let x = c.in_ok-arrival.arrival in
    let q = c.in_ok-quote.quote in
    let y = c.in_ok-before.before in
    let h : c.args.station < stations net = search rules in
    let k : Known ls c.args.station x = search rules in
    let into : q.into ≡ c.args.station = search rules in
    let some : 0 < q.room = search rules in
    let known : Known ls q.from y = search rules in
    let sum : both_kind.worth x.total ≡ both_group.add (both_kind.worth y.total) (both_kind.worth q.cost) = search rules in
    came net c.args.self.now.standing.now ls c.args.draft.now.amounts.now c.args.station x y c.in-Some.step q h k c.in-Some.is c.in_ok-quote.ensures into some known sum
