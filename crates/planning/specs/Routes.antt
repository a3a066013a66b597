-- Last steps of labels, as a plan stands now.
--   Leads       a step over a leg between stations, whatever the amounts
--   room_along  how many bikes may go along a step
--   step_cost   what a step costs
--   Link        a tight step with room for b bikes into a labelled station from another
--   Route       last steps with room for b bikes, from a station back to where a walk starts
--   Quotes      what is found of a step
--   Sees        what is found of the last step of a label
--   Finds       what is found of the last steps back from a station
--   pushed      what a leg carries after bikes were sent along a step, if it takes no more than its capacity
--   Steps       a plan after bikes went along a step, and where the step comes from
--   StepsInto   a plan after bikes went along the last step of a label
--   pushed_along, pushed_by   a plan after bikes went along last steps, as a function of the plan before
--   Along       what sending bikes along last steps does to a plan
use Rattle.std.specs.Prelude.{◌≡◌, ℕ, zero, suc, ◌+◌, ◌-◌, ◌<◌, ◌≤◌, min, Bool, ◌⊎◌, List, length, drop, ℤ, Some, None, Option, ◌≢◌, nat_lt, slice_set, if◌then◌else◌}
use Rattle.records.specs.declared.leg.Leg.{Leg}
use Rattle.network.specs.Nets.{Net}
use Rattle.costs.specs.Kinds.{both_kind}
use Rattle.plans.specs.declared.direction.Direction.{Direction}
use Rattle.plans.specs.declared.direction.Direction.TheVariants.{Forth, Back}
use Rattle.plans.specs.Plans.{stations, leg_at, amount, in_force, Fits, SameAmounts}
use Rattle.plans.specs.Residuals.{Joined, tail, head, step_both, both_group, Certifies}
use Rattle.certificates.specs.Pushes.{room_over}
use Rattle.certificates.specs.Pushes
use Rattle.steps.specs.declared.step.Step.{Step}
use Rattle.search.specs.declared.label.Arrival.{Arrival}
use Rattle.search.specs.Labels.{last_at}
use Rattle.search.specs.declared.label.Label.{Label}
use Rattle.planning.specs.declared.routes.Reach.{Reach}
use Rattle.planning.specs.declared.routes.Quote.{Quote}
use Rattle.planning.specs.Sends.{Both, Known, SettledFor, Agrees}
use Rattle.planning_rules.specs.Answers.{the_plan}
use Rattle.planning.specs.declared.routes.Sight.{Sight}
use Rattle.planning.specs.declared.routes.Sight.TheVariants.{Begun, Came}

-- from u to v
pub record Leads (net : Net) (s : Step) (u v : ℕ) : Type 0 where
  pub joined : Joined net s.leg
  pub begins : tail s.direction (leg_at net s.leg) ≡ u
  pub ends : head s.direction (leg_at net s.leg) ≡ v

abbrev pub room_along : Net → List ℕ → List ℕ → Step → ℕ
room_along net standing plan s = room_over s.direction net standing plan s.leg

abbrev pub step_cost : Net → List ℕ → List ℕ → Step → ℤ × ℤ
step_cost net standing plan s = step_both net standing plan s.direction s.leg

-- a step that is there, or none
abbrev pub Quotes : Net → List ℕ → List ℕ → Step → Option Quote → Type 0
Quotes net standing plan s None = (u v : ℕ) → Leads net s u v → ⊥
Quotes net standing plan s (Some q) = Leads net s q.from q.into × (q.room ≡ room_along net standing plan s) × (both_kind.worth q.cost ≡ step_cost net standing plan s)

-- v is labelled by x, and its last step comes from u, which is labelled too
pub record Link (net : Net) (standing plan : List ℕ) (ls : List (Label Both)) (b u v : ℕ) (x : Arrival Both) : Type 0 where
  pub before : Arrival Both
  pub last : Step
  pub known : Known ls u before
  pub by : x.last ≡ Some last
  pub leads : Leads net last u v
  pub room : b ≤ room_along net standing plan last
  pub tight : both_kind.worth x.total ≡ both_group.add (both_kind.worth before.total) (step_cost net standing plan last)

pub data Route (net : Net) (standing plan : List ℕ) (ls : List (Label Both)) (b : ℕ) : ℕ → ℕ → Type 0 where
  begins : {v : ℕ} (x : Arrival Both) → v < stations net → Known ls v x → x.last ≡ None → Route net standing plan ls b v v
  goes : {u v s : ℕ} (x : Arrival Both) → v < stations net → Known ls v x → Link net standing plan ls b u v x → Route net standing plan ls b u s → Route net standing plan ls b v s

-- no label, or the station that the last step comes from, with room for a bike, or none because a walk starts there
abbrev pub Sees : Net → List ℕ → List ℕ → List (Label Both) → ℕ → Option Sight → Type 0
Sees net standing plan ls v None = (x : Arrival Both) → v < stations net → Known ls v x → (x.last ≢ None) × ((u : ℕ) → Link net standing plan ls 1 u v x → ⊥)
Sees net standing plan ls v (Some Begun) = (v < stations net) × ((x : Arrival Both) × Known ls v x × (x.last ≡ None))
Sees net standing plan ls v (Some (Came u room)) =
    (v < stations net) × (0 < room)
    × ((x : Arrival Both) × Known ls v x × (link : Link net standing plan ls room u v x) × (room ≡ room_along net standing plan link.last))

-- nothing, which is so only where labels are of another plan or the station is not labelled, or a route
abbrev pub Finds : Net → List ℕ → List ℕ → List (Label Both) → ℕ → Option Reach → Type 0
Finds net standing plan ls v None = (old : List ℕ) (f : ℕ → Bool) (x : Arrival Both) → SettledFor net standing old f ls → SameAmounts net old plan → v < stations net → Known ls v x → ⊥
Finds net standing plan ls v (Some q) = (0 < q.room) × Route net standing plan ls q.room v q.start

abbrev pub pushed : Direction → Leg → ℕ → ℕ → ℕ
pushed Forth l x b = min (x + b) (in_force l)
pushed Back l x b = x - b

-- r is the station that the step comes from; a leg that is not there takes nothing
abbrev pub Steps : Net → ℕ → Step → Option ℕ → List ℕ → List ℕ → Type 0
Steps net b s r plan plan' =
    ((s.leg < length net.legs) × (r ≡ Some (tail s.direction (leg_at net s.leg))) × (plan' ≡ slice_set plan s.leg (pushed s.direction (leg_at net s.leg) (amount plan s.leg) b)))
    ⊎ ((length net.legs ≤ s.leg) × (r ≡ None) × (plan' ≡ plan))

abbrev pub StepsInto : Net → List (Label Both) → ℕ → ℕ → Option ℕ → List ℕ → List ℕ → Type 0
StepsInto net ls v b r plan plan' = ((s : Step) × (last_at ls v ≡ Some s) × Steps net b s r plan plan') ⊎ ((last_at ls v ≡ None) × (r ≡ None) × (plan' ≡ plan))

-- back from a station by its last step, if any; `more` goes on to the steps before
abbrev pub pushed_by : (ℕ → List ℕ → List ℕ) → Net → ℕ → Option Step → List ℕ → List ℕ
pushed_by more net b None plan = plan
pushed_by more net b (Some s) plan =
    if nat_lt s.leg (length net.legs)
    then more (tail s.direction (leg_at net s.leg)) (slice_set plan s.leg (pushed s.direction (leg_at net s.leg) (amount plan s.leg) b))
    else plan

-- at most `fuel` steps back from v: last steps may lead in a circle
abbrev pub pushed_along : Net → List (Label Both) → ℕ → ℕ → ℕ → List ℕ → List ℕ
pushed_along net ls b zero v plan = plan
pushed_along net ls b (suc fuel) v plan = pushed_by (pushed_along net ls b fuel) net b (last_at ls v) plan

-- by labels that a search has settled, over a route with room for b bikes
pub record Along (net : Net) (ls : List (Label Both)) (b v : ℕ) (plan plan' : List ℕ) : Type 0 where
  pub long : length plan' ≡ length plan
  pub beyond : drop (length net.legs) plan' ≡ drop (length net.legs) plan
  pub is : plan' ≡ pushed_along net ls b (stations net + 1) v plan
  pub sent : (standing old : List ℕ) (f : ℕ → Bool) (s : ℕ) → SettledFor net standing old f ls → Fits net (the_plan net plan) → Route net standing (the_plan net plan) ls b v s
      → Pushes.Sent net (the_plan net plan) (the_plan net plan') b s v × ((π : ℕ → ℤ × ℤ) → Agrees net ls π → Certifies net standing (the_plan net plan) π → Certifies net standing (the_plan net plan') π)
