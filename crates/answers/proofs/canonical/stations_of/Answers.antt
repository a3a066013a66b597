use Rattle.std.proofs.Common.{length, rules, arith}
use Rattle.std.specs.List.{slice_get}
use Rattle.std.proofs.lemmas.Iterator.{items_from_collect, YieldsList-from_range, YieldsList-from_map}
use Rattle.std.proofs.lemmas.Iterator.Consumers.{YieldsList-from_filter_map, YieldsList-at}
use Rattle.text_rules.specs.Stated.{as_station}
use Rattle.answers.proofs.Gathering.{gathered}
use Rattle.answers.proofs.canonical.stations_of.Goals as goal

pub returns : goal.returns
returns g c =
    let balances = (g.N.Network.meaning c.args.net.now).balances in
    rw (← gathered balances)
    (items_from_collect _ c.collect.ensures.ran
    (YieldsList-from_map _ as_station
    (YieldsList-at c.map.ensures.source (YieldsList-from_filter_map _ (slice_get balances)
    (YieldsList-from_range 0 c.stations.result (length balances) (cc) (omega (arith, c.stations.ensures))) c.filter_map.ensures.closure
    (λ x r q k. search rules))) c.map.ensures.closure (λ x r q k. search rules)))
