use Rattle.std.proofs.Common.{◌≡◌, ℕ, ◌<◌}
use Rattle.search.specs.Labels.{label_at}
use Rattle.prices.specs.Priced.{price_in}
use Rattle.plans.specs.Prices.{price_at}
use Rattle.prices.proofs.totals.write.Given as goal

-- the prices below are written
abbrev pub invariant-loop-station : goal.invariant-loop-station
invariant-loop-station l = (v : ℕ) → v < l.station → price_at l.prices v ≡ price_in (label_at l.fn.labels v)
