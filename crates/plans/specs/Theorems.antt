-- What is proved of plans, prices and cuts.
--   CertifiedIsBest          where legs join stations, a potential that no step undercuts shows a plan that obeys to be the best
--   CertifiedHasNoRoundTrip  it also excludes round trips below zero
--   BestHasNoRoundTrip       a plan that is cheapest, then nearest admits no round trip below zero
--   CutExcludesPlans         where legs join stations and there is a cut, no plan obeys
--   UncrossedIsCut           where legs join stations, those that no step leaves, with bikes left over and none lacking, are a cut
--   PricesMeetReducedCost    price(end) ≤ price(start) + cents for every step, where no round trip totals below zero
--   PricesAreUnique          a station has one price at most
--   PricesExist              every station has a price, and no walk totals less, where no round trip totals below zero
use Rattle.std.specs.Prelude.{◌≡◌, ℕ, ◌<◌, true, List, ℤ, pos, ◌+ℤ◌, ◌≤ℤ◌, ◌<ℤ◌}
use Rattle.std.specs.List.{AllByRecursion}
use Rattle.network.specs.Nets.{Net}
use Rattle.theory.specs.Walks.{Distinct}
use Rattle.plans.specs.Plans.{stations, Fits, Obeys, CheapestThenNearest, EndsBelow}
use Rattle.plans.specs.declared.direction.Direction.{Direction}
use Rattle.plans.specs.Residuals.{CentsStep, Certifies}
use Rattle.plans.specs.Prices.{CentsWalk, Price, CentsRoundTrip, BothRoundTrip}
use Rattle.plans.specs.Cuts.{among, Cut, left_over, Uncrossed}

abbrev pub CertifiedIsBest : Type 0
CertifiedIsBest = (net : Net) (standing plan : List ℕ) (π : ℕ → ℤ × ℤ) → EndsBelow net → Obeys net plan → Certifies net standing plan π → CheapestThenNearest net standing plan

abbrev pub CertifiedHasNoRoundTrip : Type 0
CertifiedHasNoRoundTrip = (net : Net) (standing plan : List ℕ) (π : ℕ → ℤ × ℤ) → Certifies net standing plan π → CentsRoundTrip net plan → ⊥

abbrev pub BestHasNoRoundTrip : Type 0
BestHasNoRoundTrip = (net : Net) (standing plan : List ℕ) → CheapestThenNearest net standing plan → (BothRoundTrip net standing plan → ⊥) × (CentsRoundTrip net plan → ⊥)

abbrev pub CutExcludesPlans : Type 0
CutExcludesPlans = (net : Net) (vs : List ℕ) → EndsBelow net → Cut net vs → (plan : List ℕ) → Obeys net plan → ⊥

abbrev pub UncrossedIsCut : Type 0
UncrossedIsCut =
    (net : Net) (plan : List ℕ) (cost : Direction → ℕ → ℤ × ℤ) (vs : List ℕ) → EndsBelow net → Fits net plan → Distinct vs → AllByRecursion (λ v. v < stations net) vs → Uncrossed net plan cost vs
    → ((v : ℕ) → among v vs ≡ true → pos 0 ≤ℤ left_over net plan v) → (w : ℕ) → among w vs ≡ true → pos 0 <ℤ left_over net plan w → Cut net vs

abbrev pub PricesMeetReducedCost : Type 0
PricesMeetReducedCost = (net : Net) (plan : List ℕ) → (CentsRoundTrip net plan → ⊥) → (u v : ℕ) (c s t : ℤ) → CentsStep net plan u v c → Price net plan u s → Price net plan v t → t ≤ℤ (s +ℤ c)

abbrev pub PricesAreUnique : Type 0
PricesAreUnique = (net : Net) (plan : List ℕ) (v : ℕ) (s t : ℤ) → Price net plan v s → Price net plan v t → s ≡ t

abbrev pub PricesExist : Type 0
PricesExist = (net : Net) (plan : List ℕ) → (CentsRoundTrip net plan → ⊥) → (v : ℕ) → v < stations net → (t : ℤ) × Price net plan v t × ((us : List ℕ) (s : ℤ) → CentsWalk net plan v us s → t ≤ℤ s)
