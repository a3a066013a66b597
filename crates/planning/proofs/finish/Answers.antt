use Rattle.planning.proofs.Finishing.{accepted, never_unpriced}
use Rattle.planning.proofs.finish.Goals as goal

pub returns-in_err-prices-clause-finishes : goal.returns-in_err-prices-clause-finishes
returns-in_err-prices-clause-finishes g c = absurd (never_unpriced (g.N.Network.meaning c.args.net.now) c.args.prices.now c.args.tables.now c.requires.prepared c.requires.room c.in_err-prices.ensures.too_short)

pub returns-clause-finishes : goal.returns-clause-finishes
returns-clause-finishes g c =
    accepted (g.N.Network.meaning c.args.net.now) c.args.standing.now c.plan-plan.result.now c.args.tables.now.draft.amounts.now c.in_ok-prices.field-0 _ _ c.plan-plan.ensures c.requires.best
    c.in_ok-prices.ensures.written _ _ c.cents_of.ensures c.difference_of.ensures c.prices.auto.prices
