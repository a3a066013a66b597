use Rattle.std.proofs.Common.{◌≡◌, true, rules}
use borrow.Author.Count.{below_more}
use Rattle.prices.specs.Claims.{Stands}
use Rattle.prices.proofs.checks.Claim.all_stand.Goals as goal

pub loop-station-preserved : goal.loop-station-preserved
loop-station-preserved g c =
    let s = c.args.self.now in
    let t : c.stands.result ≡ true = search rules in
    below_more (Stands (g.N.Network.meaning s.net.now) s.plan.now s.labels.now s.ranks.now) c.loop-station.station c.loop-station.invariant (c.stands.ensures.0 t)
