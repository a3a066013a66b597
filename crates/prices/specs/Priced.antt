-- What the prices of stations are, as they are written.
--   total_in    the total of an arrival
--   price_in    the total in a label
--   totals      the totals of the first labels
--   Writes      prices after the totals of labels were written
--   cents_fee   what steps cost in cents
--   Found       what an outcome of a search in cents from everywhere stands for
--   Written     prices after a search, by its outcome
use Rattle.std.specs.Prelude.{◌≡◌, ℕ, ◌<◌, true, List, map, drop, ℤ, pos, Some, None, Option}
use Rattle.std.specs.List.{range_with_len}
use Rattle.network.specs.Nets.{Net}
use Rattle.plans.specs.declared.direction.Direction.{Direction}
use Rattle.plans.specs.Plans.{stations}
use Rattle.plans.specs.Prices.{CentsRoundTrip, price_at, Prices}
use Rattle.costs.specs.Kinds.{Cents, cents_kind}
use Rattle.steps.specs.declared.load.Load.{Load}
use Rattle.steps.specs.Fees.{fee_cents}
use Rattle.search.specs.Labels.{label_at}
use Rattle.search.specs.Searches.{Answer}
use Rattle.search.specs.declared.label.Arrival.{Arrival}
use Rattle.search.specs.declared.label.Label.{Label}
use Rattle.search.specs.declared.outcome.Outcome.{Outcome}
use Rattle.search.specs.declared.outcome.Outcome.TheVariants.{Settled, RoundTrip}

-- of an arrival, 0 where there is none
abbrev pub total_in : Option (Arrival Cents) → ℤ
total_in None = pos 0
total_in (Some x) = x.total.0

abbrev pub price_in : Label Cents → ℤ
price_in l = total_in l.arrival

-- of k labels; 0 where a label is missing
abbrev pub totals : ℕ → List (Label Cents) → List ℤ
totals k ls = map (λ v. price_in (label_at ls v)) (range_with_len 0 k)

-- those beyond n stay
pub record Writes (n : ℕ) (ls : List (Label Cents)) (before after : List ℤ) : Type 0 where
  pub beyond : drop n after ≡ drop n before
  pub each : (v : ℕ) → v < n → price_at after v ≡ price_in (label_at ls v)

abbrev pub cents_fee : Direction → Load → Cents
cents_fee d load = fee_cents d load.leg

abbrev pub Found : Net → List ℕ → Outcome → List (Label Cents) → Type 0
Found net plan = Answer cents_kind net plan cents_fee (λ _. true)

-- settled: no round trip totals below zero, and the prices are written; round trip: one does, and they stay
abbrev pub Written : Net → List ℕ → Outcome → List ℤ → List ℤ → Type 0
Written net plan Settled before after = (CentsRoundTrip net plan → ⊥) × Prices net plan after × (drop (stations net) after ≡ drop (stations net) before)
Written net plan RoundTrip before after = CentsRoundTrip net plan × (after ≡ before)
