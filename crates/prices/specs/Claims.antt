-- Labels whose totals are claimed to be prices, and what is looked at to confirm them.
--   total_at    the total in the label of a station
--   IsKept      no step over a loaded leg undercuts the totals
--   IsKeptBy    no step over a leg of a network does
--   Attains     a step over a loaded leg leads to the total of a station by exactly its cents, from a station of lower rank
--   AttainsBy   the same, of a step over a leg of a network, if there is such a step
--   Stands      the total of a station is not above 0, and where it is below the label's last step leads to it
--   Confirmed   each total stands, and no step undercuts them
use Rattle.std.specs.Prelude.{◌≡◌, ℕ, ◌<◌, List, length, ℤ, pos, ◌+ℤ◌, ◌≤ℤ◌, ◌<ℤ◌, Some, Option, slice_index}
use Rattle.network.specs.Nets.{Net}
use Rattle.plans.specs.declared.direction.Direction.{Direction}
use Rattle.plans.specs.Plans.{stations, in_force}
use Rattle.plans.specs.Residuals.{Joined, tail, head, residual}
use Rattle.costs.specs.Kinds.{Cents}
use Rattle.steps.specs.declared.load.Load.{Load}
use Rattle.steps.specs.declared.step.Step.{Step}
use Rattle.steps.specs.Loads.{load_of}
use Rattle.search.specs.Labels.{label_at, last_at}
use Rattle.search.specs.declared.label.Label.{Label}
use Rattle.prices.specs.Priced.{price_in}

abbrev pub total_at : List (Label Cents) → ℕ → ℤ
total_at ls v = price_in (label_at ls v)

-- forth at the charge while capacity in force is left, back at the negated charge while the leg carries bikes
pub record IsKept (ls : List (Label Cents)) (x : Load) : Type 0 where
  pub forth : x.amount < in_force x.leg → total_at ls x.leg.end ≤ℤ (total_at ls x.leg.start +ℤ pos x.leg.charge)
  pub back : 0 < x.amount → (total_at ls x.leg.start +ℤ pos x.leg.charge) ≤ℤ total_at ls x.leg.end

-- a leg with an end that is no station has no step
abbrev pub IsKeptBy : Net → List ℕ → List (Label Cents) → ℕ → Type 0
IsKeptBy net plan ls k = Joined net k → IsKept ls (load_of net plan k)

-- in either direction the total at the leg's end is that at its start and the charge
pub record Attains (ls : List (Label Cents)) (ranks : List ℕ) (v : ℕ) (d : Direction) (x : Load) : Type 0 where
  pub takes : 0 < residual d x.leg x.amount
  pub ends : head d x.leg ≡ v
  pub tight : total_at ls x.leg.end ≡ total_at ls x.leg.start +ℤ pos x.leg.charge
  pub lower : slice_index ranks (tail d x.leg) < slice_index ranks v

pub record AttainsBy (net : Net) (plan : List ℕ) (ls : List (Label Cents)) (ranks : List ℕ) (v : ℕ) (claimed : Option Step) : Type 0 where
  pub last : Step
  pub is : claimed ≡ Some last
  pub joined : Joined net last.leg
  pub attains : Attains ls ranks v last.direction (load_of net plan last.leg)

pub record Stands (net : Net) (plan : List ℕ) (ls : List (Label Cents)) (ranks : List ℕ) (v : ℕ) : Type 0 where
  pub not_above : total_at ls v ≤ℤ pos 0
  pub attained : total_at ls v <ℤ pos 0 → AttainsBy net plan ls ranks v (last_at ls v)

pub record Confirmed (net : Net) (plan : List ℕ) (ls : List (Label Cents)) (ranks : List ℕ) : Type 0 where
  pub stand : (v : ℕ) → v < stations net → Stands net plan ls ranks v
  pub kept : (k : ℕ) → k < length net.legs → IsKeptBy net plan ls k
