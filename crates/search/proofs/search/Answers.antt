use Rattle.std.proofs.Common.{◌≤◌, length, arith}
use Rattle.search.proofs.Stepping.{ended_of}
use Rattle.search.proofs.search.Goals as goal

pub returns-clause-answer : goal.returns-clause-answer
returns-clause-answer g c =
    let few : c.stations-stations.result ≤ length c.args.labels.now = omega (arith, c.if-labels-stations.false) in
    (ended_of g.C.Grouped g.C.Cost.size (g.N.Network.meaning c.args.net.now) c.args.plan.now (g.F.Fees.cost c.args.fees.now) (g.S.Belongs.belongs c.args.starts.now)
    c.rounds.result c.stations-stations.result c.args.labels.now c.begin.new.labels c.rounds.new.labels c.stations-stations.ensures few
    (omega (arith, c.begin.auto.labels)) c.begin.ensures (c.rounds.ensures _)).0

pub returns-clause-beyond : goal.returns-clause-beyond
returns-clause-beyond g c =
    let few : c.stations-stations.result ≤ length c.args.labels.now = omega (arith, c.if-labels-stations.false) in
    (ended_of g.C.Grouped g.C.Cost.size (g.N.Network.meaning c.args.net.now) c.args.plan.now (g.F.Fees.cost c.args.fees.now) (g.S.Belongs.belongs c.args.starts.now)
    c.rounds.result c.stations-stations.result c.args.labels.now c.begin.new.labels c.rounds.new.labels c.stations-stations.ensures few
    (omega (arith, c.begin.auto.labels)) c.begin.ensures (c.rounds.ensures _)).1
