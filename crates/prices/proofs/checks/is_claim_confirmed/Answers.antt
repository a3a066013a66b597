use Rattle.prices.proofs.Confirming.{confirmed_prices}
use Rattle.prices.proofs.checks.is_claim_confirmed.Goals as goal

pub returns-clause-no_round_trip : goal.returns-clause-no_round_trip
returns-clause-no_round_trip g c h = (confirmed_prices (g.N.Network.meaning c.args.net.now) c.args.plan.now c.args.labels.now c.args.ranks.now (c.is_confirmed.ensures.0 h)).0

pub returns-clause-prices : goal.returns-clause-prices
returns-clause-prices g c h = (confirmed_prices (g.N.Network.meaning c.args.net.now) c.args.plan.now c.args.labels.now c.args.ranks.now (c.is_confirmed.ensures.0 h)).1
