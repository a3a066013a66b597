use Rattle.planning_rules.proofs.Passing.{uneven_sum}
use Rattle.planning_rules.proofs.judging.is_uneven.Goals as goal

pub returns : goal.returns
returns g c = uneven_sum (g.N.Network.meaning c.args.net.now) c.total_balance.result c.total_balance.ensures c.total_balance.type_inv
