-- What makes numbers the prices of stations.
--   Attained   a step that leads to the number of a station by exactly its cents, from a station of lower rank
--   Checked    no number is above 0, no step undercuts them, and each below 0 is attained
--   CheckedArePrices   such numbers are prices, and no round trip totals below zero
use Rattle.std.specs.Prelude.{◌≡◌, ℕ, ◌<◌, List, ℤ, pos, ◌+ℤ◌, ◌≤ℤ◌, ◌<ℤ◌}
use Rattle.network.specs.Nets.{Net}
use Rattle.plans.specs.Plans.{stations}
use Rattle.plans.specs.Residuals.{CentsStep}
use Rattle.plans.specs.Prices.{CentsRoundTrip}
use Rattle.plans.specs.Prices.{price_at, Prices}

-- number(v) = number(from) + cents
pub record Attained (net : Net) (plan : List ℕ) (ps : List ℤ) (rank : ℕ → ℕ) (v : ℕ) : Type 0 where
  pub from : ℕ
  pub cents : ℤ
  pub step : CentsStep net plan from v cents
  pub tight : price_at ps v ≡ price_at ps from +ℤ cents
  pub lower : rank from < rank v

-- number(end) ≤ number(start) + cents for every step; the ranks are any numbers
pub record Checked (net : Net) (plan : List ℕ) (ps : List ℤ) (rank : ℕ → ℕ) : Type 0 where
  pub none_above : (v : ℕ) → v < stations net → price_at ps v ≤ℤ pos 0
  pub reduced : (u v : ℕ) (c : ℤ) → CentsStep net plan u v c → price_at ps v ≤ℤ (price_at ps u +ℤ c)
  pub attained : (v : ℕ) → v < stations net → price_at ps v <ℤ pos 0 → Attained net plan ps rank v

abbrev pub CheckedArePrices : Type 0
CheckedArePrices = (net : Net) (plan : List ℕ) (ps : List ℤ) (rank : ℕ → ℕ) → Checked net plan ps rank → (CentsRoundTrip net plan → ⊥) × Prices net plan ps
