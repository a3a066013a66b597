use Rattle.std.proofs.Common.{true, Some, None, refl, ap, ◌∙◌}
use Rattle.planning_rules.specs.Checks.{senseless_leg}
use Rattle.planning_rules.proofs.Passing.{judged_option}
use Rattle.planning_rules.proofs.judging.is_senseless.Goals as goal

pub returns-in_default : goal.returns-in_default
returns-in_default g c = judged_option (g.N.Network.meaning c.args.net.now) c.args.number None true c.in_default.ensures refl

pub returns : goal.returns
returns g c =
    judged_option (g.N.Network.meaning c.args.net.now) c.args.number (Some c.in-Some.leg) c.makes_no_sense.result c.in-Some.ensures
    (c.makes_no_sense.ensures ∙ ap (λ n. senseless_leg n c.in-Some.leg) c.stations.ensures)
