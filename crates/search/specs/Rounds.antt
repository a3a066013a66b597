-- What holds from round to round.
--   Attained    a walk of at most k steps totals t
--   CameBy      the predecessor of a station, while rounds go on
--   Came        how a walk came to a station, while rounds go on
--   After       labels after k rounds
--   Late        the k-th round found a total that no shorter walk has
--   Still       no label changed
--   Commits     labels at the end of a round, and whether one changed
--   Begins      labels before the first round
--   AfterOf, LateOf   the same two, of the residual steps of a plan
--   RoundMore   what one round does
--   Ends        what all rounds do
use Rattle.std.specs.Prelude.{◌≡◌, ℕ, suc, ◌+◌, ◌*◌, ◌^◌, ◌<◌, ◌≤◌, Bool, true, false, ◌⊎◌, List, length, drop, Some, None}
use Rattle.network.specs.Nets.{Net}
use Rattle.theory.specs.declared.Grouped.{Ghosts as Kind}
use Rattle.theory.specs.Walks.{Walk, AtMost}
use Rattle.plans.specs.declared.direction.Direction.{Direction}
use Rattle.plans.specs.Plans.{stations}
use Rattle.steps.specs.declared.load.Load.{Load}
use Rattle.steps.specs.declared.step.Step.{Step}
use Rattle.search.specs.Labels.{label_at, held, committed, begun}
use Rattle.search.specs.Searches.{From, StepOf, OverOf, Answer}
use Rattle.search.specs.declared.label.Arrival.{Arrival}
use Rattle.search.specs.declared.label.Label.{Label}
use Rattle.search.specs.declared.outcome.Outcome.{Outcome}

-- `F v`: a walk may start at v; `S u v c`: a step from u to v at the cost c; `T s u v c`: the same,
-- by its direction and leg
module _ {C : Type 0} (K : Kind C) (size : C → ℕ) (n : ℕ) (F : ℕ → Type 0)
    (S : ℕ → ℕ → K.Member → Type 0) (T : Step → ℕ → ℕ → K.Member → Type 0) where
  pub record Attained (k v : ℕ) (t : K.Member) : Type 0 where
    pub before : List ℕ
    pub walk : Walk K.group F S v before t
    pub short : length before ≤ k

  -- its label may have fallen since, and then it was found later
  pub record CameBy (ls : List (Label C)) (since : ℕ → ℕ) (v : ℕ) (x : Arrival C) : Type 0 where
    pub from : ℕ
    pub arrival : Arrival C
    pub cost : K.Member
    pub last : Step
    pub there : (label_at ls from).arrival ≡ Some arrival
    pub by : x.last ≡ Some last
    pub step : T last from v cost
    pub above : K.group.le (K.group.add (K.worth arrival.total) cost) (K.worth x.total)
    pub earlier :
        K.group.le (K.worth x.total) (K.group.add (K.worth arrival.total) cost)
        → since from < since v

  abbrev pub Came : List (Label C) → (ℕ → ℕ) → ℕ → Arrival C → Type 0
  Came ls since v x =
      ((x.last ≡ None) × F v × (K.worth x.total ≡ K.group.zero)) ⊎ CameBy ls since v x

  -- labels are totals of walks of at most k steps, at most those of all such walks, and the steps
  -- from unchanged labels are relaxed
  pub record After (k : ℕ) (ls : List (Label C)) : Type 0 where
    pub since : ℕ → ℕ
    pub early : (v : ℕ) → since v ≤ k
    pub calm : (v : ℕ) → v < n → (label_at ls v).better ≡ None
    pub small : (v : ℕ) (x : Arrival C) → v < n
        → (label_at ls v).arrival ≡ Some x → size x.total ≤ k * 4294967295
    pub attained : (v : ℕ) (x : Arrival C) → v < n
        → (label_at ls v).arrival ≡ Some x → Attained k v (K.worth x.total)
    pub came : (v : ℕ) (x : Arrival C) → v < n
        → (label_at ls v).arrival ≡ Some x → Came ls since v x
    pub reach : (v : ℕ) (us : List ℕ) (t : K.Member)
        → Walk K.group F S v us t → length us ≤ k
        → AtMost K.group (held K (label_at ls v).arrival) t
    pub relaxed : (u v : ℕ) (c : K.Member) (y : Arrival C)
        → S u v c → (label_at ls u).changed ≡ false → (label_at ls u).arrival ≡ Some y
        → AtMost K.group (held K (label_at ls v).arrival) (K.group.add (K.worth y.total) c)

  pub record Late (k : ℕ) : Type 0 where
    pub at : ℕ
    pub below : at < n
    pub before : List ℕ
    pub total : K.Member
    pub walk : Walk K.group F S at before total
    pub no_shorter : (us : List ℕ) (s : K.Member)
        → Walk K.group F S at us s → length us < k → ¬ K.group.le s total

-- r says whether a label changed
pub record Commits {C : Type 0} (n : ℕ) (r : Bool) (old new : List (Label C)) : Type 0 where
  pub beyond : drop n new ≡ drop n old
  pub each : (v : ℕ) → v < n → label_at new v ≡ committed (label_at old v)
  pub none : r ≡ false → (v : ℕ) → v < n → (label_at old v).better ≡ None
  pub some : r ≡ true
      → (v : ℕ) × (x : Arrival C) × (v < n) × ((label_at old v).better ≡ Some x)

abbrev pub Still : {C : Type 0} → ℕ → List (Label C) → Type 0
Still n ls = (v : ℕ) → v < n → (label_at ls v).changed ≡ false

-- z is zero
pub record Begins {C : Type 0} (K : Kind C) (size : C → ℕ) (n : ℕ) (f : ℕ → Bool)
    (old new : List (Label C)) : Type 0 where
  pub z : C
  pub zero : (K.worth z ≡ K.group.zero) × (size z ≡ 0)
  pub beyond : drop n new ≡ drop n old
  pub each : (v : ℕ) → v < n → label_at new v ≡ begun (f v) z

module _ {C : Type 0} (K : Kind C) (size : C → ℕ) (net : Net) (plan : List ℕ)
    (cost : Direction → Load → C) (f : ℕ → Bool) where
  abbrev pub AfterOf : ℕ → List (Label C) → Type 0
  AfterOf =
      After K size (stations net) (From net f) (StepOf K net plan cost) (OverOf K net plan cost)

  abbrev pub LateOf : ℕ → Type 0
  LateOf =
      Late K size (stations net) (From net f) (StepOf K net plan cost) (OverOf K net plan cost)

  -- what one round does to the labels after k rounds; labels beyond the stations stay
  abbrev pub RoundMore : Bool → List (Label C) → List (Label C) → Type 0
  RoundMore r before after =
      (k : ℕ) → (k + 1) * 4294967295 ≤ 2 ^ 40 → AfterOf k before
      → AfterOf (suc k) after
      × (r ≡ false → Still (stations net) after) × (r ≡ true → LateOf (suc k))
      × (drop (stations net) after ≡ drop (stations net) before)

  -- what all rounds do to the first labels
  abbrev pub Ends : Outcome → List (Label C) → List (Label C) → Type 0
  Ends r before after =
      AfterOf 0 before
      → Answer K net plan cost f r after × (drop (stations net) after ≡ drop (stations net) before)
