-- What a search answers.
--   From         where walks start
--   Predecessor  the station that the last step of a walk comes from
--   Comes        how a walk comes to a station, by its last step
--   Settles      labels that are least totals
--   Means        what an outcome stands for
--   fee_worth    what a step over a leg costs, in the group of the costs
--   StepOf       the residual steps of a plan at what they cost
--   OverOf       those of one direction and leg
--   Answer       what an outcome stands for on a network
--   Enough       slices that are long enough to search in
--   TooShort     one of them is too short
use Rattle.std.specs.Prelude.{◌≡◌, ℕ, ◌<◌, ◌≤◌, Bool, true, ◌⊎◌, List, length, Some, None}
use Rattle.network.specs.Nets.{Net}
use Rattle.theory.specs.declared.Grouped.{Ghosts as Kind}
use Rattle.theory.specs.Walks.{Walk, Least, Reached}
use Rattle.plans.specs.declared.direction.Direction.{Direction}
use Rattle.plans.specs.Plans.{stations}
use Rattle.plans.specs.Residuals as residuals
use Rattle.steps.specs.declared.load.Load.{Load}
use Rattle.steps.specs.declared.step.Step.{Step}
use Rattle.steps.specs.Fees.{paid}
use Rattle.steps.specs.Loads.{Over}
use Rattle.search.specs.Labels.{label_at}
use Rattle.search.specs.declared.chains.Chains.{Chains}
use Rattle.search.specs.declared.label.Arrival.{Arrival}
use Rattle.search.specs.declared.label.Label.{Label}
use Rattle.search.specs.declared.outcome.Outcome.{Outcome}
use Rattle.search.specs.declared.outcome.Outcome.TheVariants.{Settled, RoundTrip}

-- a station that passes the test
abbrev pub From : Net → (ℕ → Bool) → ℕ → Type 0
From net f v = (v < stations net) × (f v ≡ true)

-- `F v`: a walk may start at v; `S u v c`: a step from u to v at the cost c; `T s u v c`: the same,
-- by its direction and leg
module _ {C : Type 0} (K : Kind C) (n : ℕ) (F : ℕ → Type 0) (S : ℕ → ℕ → K.Member → Type 0)
    (T : Step → ℕ → ℕ → K.Member → Type 0) where
  -- its label was found in an earlier round, and its total and the cost of the step sum to that of x
  pub record Predecessor (ls : List (Label C)) (since : ℕ → ℕ) (v : ℕ) (x : Arrival C) : Type 0
    where
      pub from : ℕ
      pub arrival : Arrival C
      pub cost : K.Member
      pub last : Step
      pub there : (label_at ls from).arrival ≡ Some arrival
      pub by : x.last ≡ Some last
      pub step : T last from v cost
      pub sum : K.worth x.total ≡ K.group.add (K.worth arrival.total) cost
      pub earlier : since from < since v

  -- it starts there, at zero, or there is a predecessor
  abbrev pub Comes : List (Label C) → (ℕ → ℕ) → ℕ → Arrival C → Type 0
  Comes ls since v x =
      ((x.last ≡ None) × F v × (K.worth x.total ≡ K.group.zero)) ⊎ Predecessor ls since v x

  -- `since v` is the round in which the label of v was found, so that predecessors lead back to a
  -- start; there are at most n rounds
  pub record Settles (ls : List (Label C)) : Type 0 where
    pub since : ℕ → ℕ
    pub early : (v : ℕ) → v < n → since v ≤ n
    pub least : (v : ℕ) (x : Arrival C) → v < n
        → (label_at ls v).arrival ≡ Some x → Least K.group F S v (K.worth x.total)
    pub comes : (v : ℕ) (x : Arrival C) → v < n
        → (label_at ls v).arrival ≡ Some x → Comes ls since v x
    pub unreached : (v : ℕ) → v < n
        → (label_at ls v).arrival ≡ None → (us : List ℕ) (t : K.Member) → ¬ Walk K.group F S v us t
    pub no_trip : ¬ Reached K.group F S

  -- settled: the labels are least totals; round trip: one below zero can be reached from a start
  abbrev pub Means : Outcome → List (Label C) → Type 0
  Means Settled ls = Settles ls
  Means RoundTrip ls = Reached K.group F S

module _ {C : Type 0} (K : Kind C) (net : Net) (plan : List ℕ) (cost : Direction → Load → C) where
  abbrev pub fee_worth : Direction → Load → K.Member
  fee_worth d load = K.worth (cost d load)

  abbrev pub StepOf : ℕ → ℕ → K.Member → Type 0
  StepOf = residuals.Step net plan (paid fee_worth net plan)

  abbrev pub OverOf : Step → ℕ → ℕ → K.Member → Type 0
  OverOf = Over net plan (paid fee_worth net plan)

  -- from the stations that pass the test
  abbrev pub Answer : (ℕ → Bool) → Outcome → List (Label C) → Type 0
  Answer f o ls = Means K (stations net) (From net f) StepOf OverOf o ls

-- labels and heads for every station, and nexts for every leg
abbrev pub Enough : {C : Type 0} → Net → List (Label C) → Chains → Type 0
Enough net ls chains =
    (stations net ≤ length ls)
    × (stations net ≤ length chains.heads.now) × (length net.legs ≤ length chains.nexts.now)

abbrev pub TooShort : {C : Type 0} → Net → List (Label C) → Chains → Type 0
TooShort net ls chains =
    (length ls < stations net)
    ⊎ (length chains.heads.now < stations net) ⊎ (length chains.nexts.now < length net.legs)
