use Rattle.std.proofs.Common.{◌≡◌, suc, ◌≤◌, length, Some, sym, ap, ◌∙◌, subst, arith}
use Rattle.search.specs.Chains.{On, past}
use Rattle.search.specs.Sweeps.{Walks}
use Rattle.search.proofs.Chaining.{next_below}
use Rattle.search.proofs.Visiting.{walk_none, walk_more}
use Rattle.search.proofs.walks.ChainedResidual.walk.Goals as goal

pub loop-next-init : goal.loop-next-init
loop-next-init g c =
    let net = g.N.Network.meaning c.args.self.now.residual.net.now in
    let plan = c.args.self.now.residual.plan.now in
    let cost = g.F.Fees.cost c.args.self.now.residual.fees.now in
    let chains = c.args.self.now.threaded.chains in
    let e = c.by-next.ensures in (
      λ k q. (chains.head c.args.direction c.args.station k c.requires.below (sym e ∙ q)).1,
      subst (λ o. Walks g.C.Grouped g.C.Cost.size net plan cost c.args.direction c.args.station c.args.total (past o) c.args.labels.now c.args.labels.now) (sym e)
          (walk_none g.C.Grouped g.C.Cost.size net plan cost c.args.self.now.heads.now c.args.self.now.nexts.now chains c.args.direction c.args.station c.args.total c.args.labels.now),
    )

pub relax-requires-clause-joined : goal.relax-requires-clause-joined
relax-requires-clause-joined g c = (c.loop-next.invariant.0 c.from-leg.result (c.in-Some.is ∙ ap Some (sym c.from-leg.ensures))).joined

pub bounds-nexts-leg : goal.bounds-nexts-leg
bounds-nexts-leg g c =
    let on = c.loop-next.invariant.0 c.from-leg.result (c.in-Some.is ∙ ap Some (sym c.from-leg.ensures)) in
    omega (arith, on.joined.there, c.args.self.now.threaded.nexts_long)

pub loop-next-preserved : goal.loop-next-preserved
loop-next-preserved g c =
    let net = g.N.Network.meaning c.args.self.now.residual.net.now in
    let plan = c.args.self.now.residual.plan.now in
    let cost = g.F.Fees.cost c.args.self.now.residual.fees.now in
    let chains = c.args.self.now.threaded.chains in
    let k = c.from-leg.result in
    let h : c.loop-next.next ≡ Some k = c.in-Some.is ∙ ap Some (sym c.from-leg.ensures) in
    let on : On net c.args.direction c.args.station k = c.loop-next.invariant.0 k h in
    let long : length c.args.labels.now ≡ length c.loop-next.labels = omega arith in
    let f = c.by-next-in-Some.ensures in (
      λ i q. (chains.after c.args.direction c.args.station k i on.joined.there on (sym f ∙ q)).1,
      subst (λ o. Walks g.C.Grouped g.C.Cost.size net plan cost c.args.direction c.args.station c.args.total (past o) c.args.labels.now c.relax.new.labels) (sym f)
          (walk_more g.C.Grouped g.C.Cost.size net plan cost c.args.self.now.heads.now c.args.self.now.nexts.now chains c.args.direction c.args.station c.args.total
          k c.args.labels.now c.loop-next.labels c.relax.new.labels on
          (subst (λ o. Walks g.C.Grouped g.C.Cost.size net plan cost c.args.direction c.args.station c.args.total (past o) c.args.labels.now c.loop-next.labels) h c.loop-next.invariant.1) c.relax.ensures),
    )

pub loop-next-smaller : goal.loop-next-smaller
loop-next-smaller g c =
    let net = g.N.Network.meaning c.args.self.now.residual.net.now in
    let chains = c.args.self.now.threaded.chains in
    let k = c.from-leg.result in
    let h : c.loop-next.next ≡ Some k = c.in-Some.is ∙ ap Some (sym c.from-leg.ensures) in
    let on : On net c.args.direction c.args.station k = c.loop-next.invariant.0 k h in
    let below = next_below net (length net.legs) c.args.self.now.heads.now c.args.self.now.nexts.now chains c.args.direction c.args.station k on.joined.there on in
    let less : past c.by-next-in-Some.result ≤ k = rw c.by-next-in-Some.ensures below in
    let e : past c.loop-next.next ≡ suc k = ap past h in
    omega arith

pub returns : goal.returns
returns g c =
    let net = g.N.Network.meaning c.args.self.now.residual.net.now in
    let plan = c.args.self.now.residual.plan.now in
    let cost = g.F.Fees.cost c.args.self.now.residual.fees.now in
    subst (λ o. Walks g.C.Grouped g.C.Cost.size net plan cost c.args.direction c.args.station c.args.total (past o) c.args.labels.now c.loop-next.labels) c.in_default.is c.loop-next.invariant.1
