use Rattle.std.proofs.Common.{◌≡◌, ◌<◌, length, Some, ap, ◌∙◌, subst, arith}
use Rattle.plans.specs.Residuals.{head, residual}
use Rattle.steps.specs.declared.load.Load.{Load}
use Rattle.steps.specs.Loads.{load_of}
use Rattle.search.specs.Sweeps.{Offered}
use Rattle.search.proofs.Sweeping.{head_below, step_offered}
use Rattle.search.proofs.relax.Residual.relax.Goals as goal

pub returns : goal.returns
returns g c =
    let joined = c.requires.joined in
    let long = c.requires.long in
    let net = g.N.Network.meaning c.args.self.now.net.now in
    let plan = c.args.self.now.plan.now in
    let s = c.args.step in
    let e : c.in-Some.load ≡ load_of net plan s.leg = c.in-Some.ensures.1 in
    let takes : 0 < residual s.direction c.in-Some.load.leg c.in-Some.load.amount = omega (arith, c.residual.ensures, c.if-residual-eq0.false) in
    let at : c.from.result ≡ head s.direction c.in-Some.load.leg = c.from.ensures ∙ c.head.ensures in
    let place : c.from.result ≡ head s.direction (load_of net plan s.leg).leg = at ∙ ap (λ (l : Load). head s.direction l.leg) e in
    let inside : c.from.result < length c.args.labels.now = omega (arith, head_below net s.direction s.leg joined, place) in
    step_offered g.C.Grouped g.C.Cost.size net plan (g.F.Fees.cost c.args.self.now.fees.now) s c.args.total c.fee.result c.sum.result c.args.labels.now c.offer.new.labels joined long
    (subst (λ (l : Load). 0 < residual s.direction l.leg l.amount) e takes)
    (c.fee.ensures.worth ∙ ap (λ l. g.C.Grouped.worth (g.F.Fees.cost c.args.self.now.fees.now s.direction l)) e)
    c.fee.ensures.small c.sum.ensures.exact
    (subst (λ v. Offered g.C.Grouped c.args.labels.now c.offer.new.labels v (record { total = c.sum.result; last = Some s })) place c.offer.ensures)
