use Rattle.std.proofs.Common.{◌≤◌, ◌++◌, length, drop, length-take, subst, arith}
use Rattle.search.specs.Rounds.{Commits}
use Rattle.search.proofs.Stepping.{round_of}
use Rattle.search.proofs.Writing.{commits_before}
use Rattle.search.proofs.rounds.round.Goals as goal

pub returns : goal.returns
returns g c =
    let n = c.stations.result in
    let mid = c.sweep.new.labels in
    let after = c.commit.new.labels ++ drop n mid in
    let few : n ≤ length mid = omega (arith, c.requires, c.stations.ensures, c.sweep.auto.labels) in
    λ f.
    round_of g.C.Grouped g.C.Cost.size (g.N.Network.meaning c.args.chained.now.residual.net.now) c.args.chained.now.residual.plan.now (g.F.Fees.cost c.args.chained.now.residual.fees.now) f
    c.commit.result c.args.labels.now mid after c.sweep.ensures
    (subst (λ m. Commits m c.commit.result mid after) c.stations.ensures (commits_before n mid c.commit.new.labels few (omega (arith, few, c.commit.auto.labels, length-take n mid)) c.commit.result c.commit.ensures))
