use Rattle.search.proofs.Chaining.{chained_skip, chained_put}
use Rattle.search.proofs.chains.Chains.link_leg.Goals as goal

pub returns-in_default-clause-chained : goal.returns-in_default-clause-chained
returns-in_default-clause-chained g c = chained_skip (g.N.Network.meaning c.args.net.now) c.args.number c.args.self.now.heads.now c.args.self.now.nexts.now c.in_default.ensures

pub returns-clause-chained : goal.returns-clause-chained
returns-clause-chained g c =
    chained_put (g.N.Network.meaning c.args.net.now) c.args.number c.in-Some.leg c.args.self.now.heads.now c.args.self.now.nexts.now c.put.new.self.heads.now c.put.new.self.nexts.now
    c.in-Some.ensures.0 c.in-Some.ensures.1 c.requires.next c.requires.heads c.put.ensures.heads c.put.ensures.next
