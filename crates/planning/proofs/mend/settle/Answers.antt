use Rattle.std.proofs.Common.{length, sym, subst, arith}
use Rattle.certificates.specs.Mends.{Mended}
use Rattle.planning.specs.Leavings.{Left}
use Rattle.planning.specs.Potentials.{potential}
use Rattle.planning.proofs.Leaving.{few_over}
use Rattle.planning.proofs.mend.settle.Goals as goal

pub total_over-requires : goal.total_over-requires
total_over-requires g c =
    let net = g.N.Network.meaning c.args.net.now in
    few_over net c.mend_all.new.plan (length net.legs) c.leave.new.left (g.N.Network.limits c.args.net.now) (omega arith) c.leave.ensures.left

pub returns-clause-mended : goal.returns-clause-mended
returns-clause-mended g c = subst (λ p. Mended (g.N.Network.meaning c.args.net.now) c.args.standing.now c.args.plan.now (potential c.args.potentials.now) p) (sym c.leave.ensures.plan) c.mend_all.ensures

pub returns-clause-left : goal.returns-clause-left
returns-clause-left g c =
    let net = g.N.Network.meaning c.args.net.now in
    subst (λ p. Left net p (length net.legs) c.leave.new.left) (sym c.leave.ensures.plan) c.leave.ensures.left
