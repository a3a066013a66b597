use Rattle.std.proofs.Common.{◌≡◌, ◌-◌, rules}
use Rattle.std.specs.Option.{IfSome}
use Rattle.yard.specs.Yards.{yard_leg}
use Rattle.yard.proofs.Answered.{leg_answered}
use Rattle.yard.proofs.Yard.leg_above.Goals as goal

pub returns : goal.returns
returns g c =
    let some : IfSome c.then.result (λ l. l ≡ yard_leg c.args.self.now.charge c.stations-stations.result (c.args.number - c.legs-legs.result)) = search rules in
    leg_answered c.args.self.now.charge (g.N.Network.meaning c.args.self.now.below) c.args.number c.stations-stations.result c.legs-legs.result c.then.result c.stations-stations.ensures c.legs-legs.ensures
    c.if-is_full.ensures c.requires c.then.ensures.variant some
