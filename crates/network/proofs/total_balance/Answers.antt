use Rattle.std.proofs.Common.{ℕ, ◌≤◌, get_or, pos, refl, sym, ap, ◌∙◌, arith, w64, SFits, rules}
use Rattle.std.proofs.lemmas.Int.{to_z-of_z}
use Rattle.std.proofs.lemmas.List.FromFn.{fill_by_all}
use Rattle.network.specs.Nets.{total}
use Rattle.network.proofs.Totals.{sums_fit, summed}
use Rattle.network.proofs.total_balance.Goals as goal

pub sum-requires-clause-fits : goal.sum-requires-clause-fits
sum-requires-clause-fits g c =
    let bs = (g.N.Network.meaning c.args.network.now).balances in
    let w = g.N.Network.limits c.args.network.now in
    let few : c.stations.result ≤ 240 = omega (arith, w.few_stations) in
    sums_fit _ _ (λ v. get_or bs v (pos 0)) c.stations.result c.map.ensures.source c.map.ensures.closure few (λ x r q k. search rules)

pub returns : goal.returns
returns g c =
    let bs = (g.N.Network.meaning c.args.network.now).balances in
    let fits : SFits w64 c.sum.result = search rules in
    to_z-of_z w64 c.sum.result fits
    ∙ summed _ _ (λ v. get_or bs v (pos 0)) c.stations.result c.sum.result c.sum.ensures.ran c.map.ensures.source c.map.ensures.closure (λ x r q k. search rules)
    ∙ ap total (sym (fill_by_all (λ (v : ℕ). get_or bs v (pos 0)) bs c.stations.result (pos 0) (sym c.stations.ensures) (λ k h. refl)))
