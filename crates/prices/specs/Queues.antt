-- The slices that prices are searched in.
--   SameQueue   both slices stay lent, and keep their lengths
--   Enough      slices that are long enough, and room for the prices
--   TooShort    one of them is too short
use Rattle.std.specs.Prelude.{◌<◌, ◌≤◌, ◌⊎◌, List, length, ℤ}
use Rattle.network.specs.Nets.{Net}
use Rattle.plans.specs.Plans.{stations}
use Rattle.plans.specs.Slices.{SameSlice}
use Rattle.costs.specs.Kinds.{Cents}
use Rattle.search.specs.declared.label.Label.{Label}
use Rattle.search.specs.Searches as searches
use Rattle.search.specs.declared.chains.Chains.{Chains}
use Rattle.prices.specs.declared.queue.Queue.{Queue}

pub record SameQueue (before after : Queue) : Type 0 where
  pub heap : SameSlice before.heap after.heap
  pub places : SameSlice before.places after.places

-- to search in, and an entry of the heap, a place and a price for every station
abbrev pub Enough : Net → List (Label Cents) → Chains → Queue → List ℤ → Type 0
Enough net ls chains queue ps =
    searches.Enough net ls chains × (stations net ≤ length queue.heap.now) × (stations net ≤ length queue.places.now) × (stations net ≤ length ps)

abbrev pub TooShort : Net → List (Label Cents) → Chains → Queue → List ℤ → Type 0
TooShort net ls chains queue ps =
    searches.TooShort net ls chains ⊎ (length queue.heap.now < stations net) ⊎ (length queue.places.now < stations net) ⊎ (length ps < stations net)
