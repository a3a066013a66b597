use Rattle.std.proofs.Common.{◌≡◌, true, false, ap, ◌∙◌, rules}
use Rattle.std.proofs.lemmas.Iterator.{first_from_Range}
use Rattle.planning_rules.specs.Checks.{lowest, too_large}
use Rattle.planning_rules.proofs.Lowering.{first_is}
use Rattle.planning_rules.proofs.judging.lowest_too_large.Goals as goal

pub returns : goal.returns
returns g c =
    let net = g.N.Network.meaning c.args.net.now in
    let first = first_from_Range _ _ _ c.find.result (λ k. too_large net k ≡ true) (λ k. too_large net k ≡ false) c.find.ensures.ran (λ x q k. search rules) (λ x q k. search rules) in
    first_is (too_large net) c.stations.result c.find.result first ∙ ap (lowest (too_large net)) c.stations.ensures
