-- Walks of steps that have costs, and least totals.
--   Walk         steps that join, from a station where one may start
--   Way          steps that join, from one station to another
--   Absent       a number that is not in a list
--   Distinct     no number twice
--   SimpleWalk   a walk that meets no station twice
--   Least        the least total of the walks to a station
--   Price        the least total of the simple walks to a station
--   RoundTrip    a way back to where it began that meets no other station twice and totals below zero
--   Reached      a round trip below zero at a station that a walk reaches
--   Label        labels of the reached stations that no start and no step undercuts
--   Rounds       what the labels are at most, round by round of relaxing
--   Edge, Among  a step as a record, and the steps of a list of them
--   Passes       a test that a number passes
--   AtMost       a label, absent or there, that is at most so much
-- `F v` says that a walk may start at v, `S u v c` that there is a step from u to v at the cost c.
use Rattle.std.specs.Prelude.{◌≡◌, ℕ, suc, Bool, true, ◌⊎◌, List, [], ◌∷◌, Some, None, Option, ◌≢◌}
use Rattle.theory.specs.Groups.{OrderedGroup}

-- it ends at v, met the stations us before (the latest first), and totals t
pub data Walk {A : Type 0} (G : OrderedGroup A) (F : ℕ → Type 0) (S : ℕ → ℕ → A → Type 0) : ℕ → List ℕ → A → Type 0 where
  start : {v : ℕ} → F v → Walk G F S v [] G.zero
  step : {u v : ℕ} {us : List ℕ} {t c : A} → Walk G F S u us t → S u v c → Walk G F S v (u ∷ us) (G.add t c)

-- it leads from o to v, met the stations us before v (the latest first, o the last), and totals t
pub data Way {A : Type 0} (G : OrderedGroup A) (S : ℕ → ℕ → A → Type 0) (o : ℕ) : ℕ → List ℕ → A → Type 0 where
  rest : Way G S o o [] G.zero
  go : {u v : ℕ} {us : List ℕ} {t c : A} → Way G S o u us t → S u v c → Way G S o v (u ∷ us) (G.add t c)

abbrev pub Absent : ℕ → List ℕ → Type 0
Absent v [] = Unit {0}
Absent v (u ∷ us) = (v ≢ u) × Absent v us

abbrev pub Distinct : List ℕ → Type 0
Distinct [] = Unit {0}
Distinct (v ∷ vs) = Absent v vs × Distinct vs

pub record SimpleWalk {A : Type 0} (G : OrderedGroup A) (F : ℕ → Type 0) (S : ℕ → ℕ → A → Type 0) (v : ℕ) (t : A) : Type 0 where
  pub before : List ℕ
  pub walk : Walk G F S v before t
  pub once : Distinct (v ∷ before)

-- a walk totals t, and none totals less
pub record Least {A : Type 0} (G : OrderedGroup A) (F : ℕ → Type 0) (S : ℕ → ℕ → A → Type 0) (v : ℕ) (t : A) : Type 0 where
  pub before : List ℕ
  pub attained : Walk G F S v before t
  pub least : (us : List ℕ) (s : A) → Walk G F S v us s → G.le t s

-- a simple walk totals t, and none totals less
pub record Price {A : Type 0} (G : OrderedGroup A) (F : ℕ → Type 0) (S : ℕ → ℕ → A → Type 0) (v : ℕ) (t : A) : Type 0 where
  pub attained : SimpleWalk G F S v t
  pub least : (s : A) → SimpleWalk G F S v s → G.le t s

pub record RoundTrip {A : Type 0} (G : OrderedGroup A) (S : ℕ → ℕ → A → Type 0) : Type 0 where
  pub at : ℕ
  pub through : List ℕ
  pub total : A
  pub way : Way G S at at through total
  pub once : Distinct through
  pub below : G.le G.zero total → ⊥

pub record Reached {A : Type 0} (G : OrderedGroup A) (F : ℕ → Type 0) (S : ℕ → ℕ → A → Type 0) : Type 0 where
  pub trip : RoundTrip G S
  pub before : List ℕ
  pub total : A
  pub walk : Walk G F S trip.at before total

-- `R v` says that v is reached, and then `d v` is its label
pub record Label {A : Type 0} (G : OrderedGroup A) (F : ℕ → Type 0) (S : ℕ → ℕ → A → Type 0) (R : ℕ → Type 0) (d : ℕ → A) : Type 0 where
  pub starts : (v : ℕ) → F v → R v × G.le (d v) G.zero
  pub held : (u v : ℕ) (c : A) → R u → S u v c → R v × G.le (d v) (G.add (d u) c)

-- `U k v t` says that after k rounds v has a label of at most t
pub record Rounds {A : Type 0} (G : OrderedGroup A) (F : ℕ → Type 0) (S : ℕ → ℕ → A → Type 0) (U : ℕ → ℕ → A → Type 0) : Type 0 where
  pub first : (v : ℕ) → F v → U 0 v G.zero
  pub falls : (k v : ℕ) (t : A) → U k v t → U (suc k) v t
  pub relaxed : (k u v : ℕ) (t c : A) → U k u t → S u v c → U (suc k) v (G.add t c)

pub record Edge (A : Type 0) : Type 0 where
  pub from : ℕ
  pub to : ℕ
  pub cost : A

abbrev pub Among : {A : Type 0} → List (Edge A) → ℕ → ℕ → A → Type 0
Among [] u v c = ⊥
Among (e ∷ es) u v c = ((e.from ≡ u) × (e.to ≡ v) × (e.cost ≡ c)) ⊎ Among es u v c

abbrev pub Passes : (ℕ → Bool) → ℕ → Type 0
Passes f v = f v ≡ true

abbrev pub AtMost : {A : Type 0} → OrderedGroup A → Option A → A → Type 0
AtMost G None t = ⊥
AtMost G (Some a) t = G.le a t
