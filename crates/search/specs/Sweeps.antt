-- One round over the steps from labels that the round before changed.
--   Offered    a label after a walk was offered to it
--   Falls      what labels have found or hold only falls
--   Found      what a round has found for a station: a step beyond a label of the round before
--   Sweep      labels within a round, from those at its beginning
--   Relaxed    a step's end has found or holds no more than a total with the step
--   Visited    the steps from a station are relaxed, if its label was changed
--   SweepOf, RelaxedOf, VisitedOf   the same, of the residual steps of a plan
--   Relaxes    what relaxing one step does to a round
--   Walks      what relaxing the steps of a chain does
--   Visits     what relaxing all steps from a station does
--   Sweeps     what relaxing the steps from all stations below i does
use Rattle.std.specs.Prelude.{◌≡◌, ℕ, ◌+◌, ◌^◌, ◌<◌, ◌≤◌, true, ◌⊎◌, List, length, drop, Some, slice_set}
use Rattle.network.specs.Nets.{Net}
use Rattle.theory.specs.declared.Grouped.{Ghosts as Kind}
use Rattle.theory.specs.Walks.{AtMost}
use Rattle.plans.specs.declared.direction.Direction.{Direction}
use Rattle.plans.specs.Plans.{stations, leg_at}
use Rattle.plans.specs.Residuals.{tail}
use Rattle.steps.specs.declared.load.Load.{Load}
use Rattle.steps.specs.declared.step.Step.{Step}
use Rattle.search.specs.Labels.{label_at, best, fresh, with_better}
use Rattle.search.specs.Searches.{OverOf}
use Rattle.search.specs.declared.label.Arrival.{Arrival}
use Rattle.search.specs.declared.label.Label.{Label}

module _ {C : Type 0} (K : Kind C) where
  -- taken if the label has found and holds nothing as low, else left
  abbrev pub Offered : List (Label C) → List (Label C) → ℕ → Arrival C → Type 0
  Offered before after v x =
      ((after ≡ slice_set before v (with_better (label_at before v) x))
      × ¬ AtMost K.group (best K (label_at before v)) (K.worth x.total))
      ⊎ ((after ≡ before) × AtMost K.group (best K (label_at before v)) (K.worth x.total))

  abbrev pub Falls : List (Label C) → List (Label C) → Type 0
  Falls before after =
      (v : ℕ) (t : K.Member)
      → AtMost K.group (best K (label_at before v)) t → AtMost K.group (best K (label_at after v)) t

-- `T s u v c`: a step by its direction and leg, from u to v at the cost c
module _ {C : Type 0} (K : Kind C) (size : C → ℕ) (n : ℕ) (T : Step → ℕ → ℕ → K.Member → Type 0)
  where
    pub record Found (old : List (Label C)) (v : ℕ) (x : Arrival C) : Type 0 where
      pub from : ℕ
      pub arrival : Arrival C
      pub cost : K.Member
      pub last : Step
      pub there : (label_at old from).arrival ≡ Some arrival
      pub by : x.last ≡ Some last
      pub step : T last from v cost
      pub sum : K.worth x.total ≡ K.group.add (K.worth arrival.total) cost
      pub small : size x.total ≤ size arrival.total + 4294967295

    -- what is held stays; what is found comes from a step and is lower than what is held
    pub record Sweep (old new : List (Label C)) : Type 0 where
      pub long : length new ≡ length old
      pub beyond : drop n new ≡ drop n old
      pub arrival : (v : ℕ) → (label_at new v).arrival ≡ (label_at old v).arrival
      pub changed : (v : ℕ) → (label_at new v).changed ≡ (label_at old v).changed
      pub small : (v : ℕ) (x : Arrival C) → v < n
          → (label_at old v).arrival ≡ Some x → size x.total + 4294967295 ≤ 2 ^ 40
      pub found : (v : ℕ) (x : Arrival C) → v < n
          → (label_at new v).better ≡ Some x → Found old v x
      pub lower : (v : ℕ) (x y : Arrival C) → v < n
          → (label_at new v).better ≡ Some x → (label_at old v).arrival ≡ Some y
          → ¬ K.group.le (K.worth y.total) (K.worth x.total)

    -- from u, where a walk has the total
    abbrev pub Relaxed : Step → ℕ → C → List (Label C) → Type 0
    Relaxed s u total new =
        (v : ℕ) (c : K.Member) → T s u v c
        → AtMost K.group (best K (label_at new v)) (K.group.add (K.worth total) c)

    abbrev pub Visited : ℕ → List (Label C) → List (Label C) → Type 0
    Visited u old new =
        (s : Step) (y : Arrival C) → (label_at old u).changed ≡ true
        → (label_at old u).arrival ≡ Some y → Relaxed s u y.total new

module _ {C : Type 0} (K : Kind C) (size : C → ℕ) (net : Net) (plan : List ℕ)
    (cost : Direction → Load → C) where
  abbrev pub SweepOf : List (Label C) → List (Label C) → Type 0
  SweepOf = Sweep K size (stations net) (OverOf K net plan cost)

  abbrev pub RelaxedOf : Step → ℕ → C → List (Label C) → Type 0
  RelaxedOf = Relaxed K size (stations net) (OverOf K net plan cost)

  abbrev pub VisitedOf : ℕ → List (Label C) → List (Label C) → Type 0
  VisitedOf = Visited K size (stations net) (OverOf K net plan cost)

  -- each of the following whatever the labels were at the beginning of the round
  -- from a changed label with the total, where the step begins
  abbrev pub Relaxes : Step → C → List (Label C) → List (Label C) → Type 0
  Relaxes s total before after =
      (old : List (Label C))
      → fresh (label_at old (tail s.direction (leg_at net s.leg))) ≡ Some total
      → SweepOf old before
      → SweepOf old after × Falls K before after
      × RelaxedOf s (tail s.direction (leg_at net s.leg)) total after

  -- the legs from k on, in the chain of the station u whose changed label has the total
  abbrev pub Walks : Direction → ℕ → C → ℕ → List (Label C) → List (Label C) → Type 0
  Walks d u total k before after =
      (old : List (Label C)) → fresh (label_at old u) ≡ Some total
      → SweepOf old before
      → SweepOf old after × Falls K before after
      × ((j : ℕ) → k ≤ j → RelaxedOf (record { direction = d; leg = j }) u total after)

  abbrev pub Visits : ℕ → List (Label C) → List (Label C) → Type 0
  Visits u before after =
      (old : List (Label C))
      → SweepOf old before
      → SweepOf old after × Falls K before after × VisitedOf u old after

  abbrev pub Sweeps : ℕ → List (Label C) → List (Label C) → Type 0
  Sweeps i before after =
      (old : List (Label C))
      → SweepOf old before
      → SweepOf old after × ((u : ℕ) → u < i → VisitedOf u old after)
