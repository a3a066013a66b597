use Rattle.std.proofs.Common.{◌≡◌, true, false, ap, ◌∙◌, rules}
use Rattle.std.proofs.lemmas.Iterator.{first_from_Range}
use Rattle.planning_rules.specs.Checks.{lowest, senseless}
use Rattle.planning_rules.proofs.Lowering.{first_is}
use Rattle.planning_rules.proofs.judging.lowest_senseless.Goals as goal

pub returns : goal.returns
returns g c =
    let net = g.N.Network.meaning c.args.net.now in
    let first = first_from_Range _ _ _ c.find.result (λ k. senseless net k ≡ true) (λ k. senseless net k ≡ false) c.find.ensures.ran (λ x q k. search rules) (λ x q k. search rules) in
    first_is (senseless net) c.legs.result c.find.result first ∙ ap (lowest (senseless net)) c.legs.ensures
