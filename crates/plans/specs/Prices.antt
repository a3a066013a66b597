-- Walks on the residual network of a plan, and the prices of stations.
--   Station           a number below n
--   CentsWalk         a walk of steps from any station: its end, the stations before (the latest first), its total in cents
--   Price             the price of a station
--   CentsRoundTrip    a round trip of steps that totals below zero cents
--   BothRoundTrip     the same in pairs of cents and bikes of difference
--   price_at          the price of a station in a list
--   Prices            a list begins with every station's price, and no step undercuts them
use Rattle.std.specs.Prelude.{ℕ, ◌<◌, List, ℤ, pos, ◌+ℤ◌, ◌≤ℤ◌, slice_index_or}
use Rattle.network.specs.Nets.{Net}
use Rattle.theory.specs.Groups.{whole}
use Rattle.theory.specs.Walks.{Walk, RoundTrip}
use Rattle.theory.specs.Walks
use Rattle.plans.specs.Plans.{stations}
use Rattle.plans.specs.Residuals.{CentsStep, BothStep, both_group}

abbrev pub Station : Net → ℕ → Type 0
Station net v = v < stations net

-- the walk without steps totals 0
abbrev pub CentsWalk : Net → List ℕ → ℕ → List ℕ → ℤ → Type 0
CentsWalk net plan = Walk whole (Station net) (CentsStep net plan)

-- the least total of the simple walks that end there: one has it, and none has less
abbrev pub Price : Net → List ℕ → ℕ → ℤ → Type 0
Price net plan = Walks.Price whole (Station net) (CentsStep net plan)

abbrev pub CentsRoundTrip : Net → List ℕ → Type 0
CentsRoundTrip net plan = RoundTrip whole (CentsStep net plan)

abbrev pub BothRoundTrip : Net → List ℕ → List ℕ → Type 0
BothRoundTrip net standing plan = RoundTrip both_group (BothStep net standing plan)

-- 0 beyond the list
abbrev pub price_at : List ℤ → ℕ → ℤ
price_at ps v = slice_index_or ps v (pos 0)

-- price(end) ≤ price(start) + cents for every step
pub record Prices (net : Net) (plan : List ℕ) (ps : List ℤ) : Type 0 where
  pub price : (v : ℕ) → v < stations net → Price net plan v (price_at ps v)
  pub reduced : (u v : ℕ) (c : ℤ) → CentsStep net plan u v c → price_at ps v ≤ℤ (price_at ps u +ℤ c)
