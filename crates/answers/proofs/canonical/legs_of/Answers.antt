use Rattle.std.proofs.Common.{length, rules, arith}
use Rattle.std.specs.List.{slice_get}
use Rattle.std.proofs.lemmas.Iterator.{items_from_collect, YieldsList-from_range}
use Rattle.std.proofs.lemmas.Iterator.Consumers.{YieldsList-from_filter_map}
use Rattle.answers.proofs.Gathering.{gathered}
use Rattle.answers.proofs.canonical.legs_of.Goals as goal

pub returns : goal.returns
returns g c =
    let legs = (g.N.Network.meaning c.args.net.now).legs in
    rw (← gathered legs)
    (items_from_collect _ c.collect.ensures.ran
    (YieldsList-from_filter_map _ (slice_get legs) (YieldsList-from_range 0 c.legs.result (length legs) (cc) (omega (arith, c.legs.ensures))) c.filter_map.ensures.closure
    (λ x r q k. search rules)))
