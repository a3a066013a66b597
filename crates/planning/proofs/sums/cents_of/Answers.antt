use Rattle.std.proofs.Common.{ℕ, ◌*◌, ◌≤◌, ap, ◌∙◌, arith, rules}
use Rattle.plans.specs.Plans.{leg_at, amount, sum_below}
use Rattle.planning.proofs.Adding.{sums_fit, summed}
use Rattle.planning.proofs.sums.cents_of.Goals as goal

pub sum-requires-clause-fits : goal.sum-requires-clause-fits
sum-requires-clause-fits g c =
    let w = g.N.Network.limits c.args.net.now in
    let few : c.legs.result ≤ 3000 = omega (arith, w.few_legs) in
    sums_fit _ _ c.legs.result c.map.ensures.source c.map.ensures.closure few (λ x r q k. search rules)

pub returns : goal.returns
returns g c =
    let read = λ (k : ℕ). (leg_at (g.N.Network.meaning c.args.net.now) k).charge * amount c.args.plan.now k in
    summed _ _ c.legs.result read c.sum.result c.sum.ensures.ran c.map.ensures.source c.map.ensures.closure (λ x r q k. search rules)
    ∙ ap (λ n. sum_below n read) c.legs.ensures
