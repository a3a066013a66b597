-- The theorems, of any ordered group G, or of integers alone. Walks are over the steps of a list, from the stations
-- that pass a test; the proofs are of any steps and starts. Legs join stations below n, and fees are convex, where a
-- statement has these as premises.
--   Exchange           sums over stations are sums over legs whose ends are stations
--   LeastAtOneLeg      a convex leg at an amount that no step undercuts
--   UndercutByNoStep   weak duality: fees are convex and no residual step undercuts some potential, so no plan is cheaper
--   CutHolds           a set of stations that owes more than its legs outwards can carry: no plan
--   FullCut            a set that no residual step leaves sends out what its legs outwards can carry
--   RoundTripsRemoved  a walk without its round trips
--   LabelsAreLeast     labels that no step undercuts and that walks attain are least totals, and prices
--   LabelsExcludeRoundTrips   such labels, attained or not, admit no reached round trip below zero
--   ReducedCostOfPrices       prices where no round trip totals below zero
--   PriceIsLeast       where no round trip below zero is reached, a price is the least total of all walks, and the other way round
--   LeastTotalsExist   where no round trip below zero is reached
--   FewDistinct        the pigeonhole
--   RoundsReach        what k rounds of relaxing reach
--   RoundsShowTrip     a total below what n - 1 rounds reach
--   PushAlongTrail     bikes sent along a trail
--   RoundTripIsTrail   a round trip below zero passes different legs, where fees are convex
use Rattle.std.specs.Prelude.{◌≡◌, ℕ, suc, ◌<◌, ◌≤◌, Bool, ◌⊎◌, List, length, ℤ, pos, ◌-ℤ◌, ◌<ℤ◌, Option, slice_index, slice_index_or}
use Rattle.std.specs.List.{AllByRecursion}
use Rattle.theory.specs.Groups.{OrderedGroup}
use Rattle.theory.specs.Arcs.{Arc, gather, Fits, Feasible, times, sum_to, along, fees, Convex, Tight, Uncut, outward, owed, AllFull}
use Rattle.theory.specs.Walks.{Walk, Distinct, SimpleWalk, Least, Price, RoundTrip, Reached, Label, Rounds, Edge, Among, Passes, AtMost}
use Rattle.theory.specs.Trails.{Trail, Pushed, Residual, Around}

-- Σ over the stations below n of (amounts on legs with that end there) × π = Σ over the legs of amount × (π at that end)
abbrev pub Exchange : {A : Type 0} → OrderedGroup A → Type 0
Exchange {A} G = (at : Arc A → ℕ) (n : ℕ) (π : ℕ → A) (ls : List (Arc A)) (xs : List ℕ) → AllByRecursion (λ l. at l < n) ls → sum_to G n (λ v. times G (gather at v ls xs) (π v)) ≡ along G (λ l. π (at l)) ls xs

-- f x - x times p is least among the amounts up to the most
abbrev pub LeastAtOneLeg : {A : Type 0} → OrderedGroup A → Type 0
LeastAtOneLeg {A} G = (f : ℕ → A) (p : A) (most x : ℕ) → Convex G f → Tight G f p most x → (y : ℕ) → y ≤ most → G.le (G.add (f x) (times G y p)) (G.add (f y) (times G x p))

-- where legs join stations and fees are convex, a feasible plan that no residual step undercuts costs no more than any feasible plan
abbrev pub UndercutByNoStep : {A : Type 0} → OrderedGroup A → Type 0
UndercutByNoStep {A} G = (n : ℕ) (b : ℕ → ℤ) (π : ℕ → A) (ls : List (Arc A)) (xs ys : List ℕ) → AllByRecursion (λ l. (l.from < n) × (l.to < n)) ls → AllByRecursion (λ l. Convex G l.fee) ls → Feasible n b ls xs → Feasible n b ls ys → Uncut G π ls xs → G.le (fees G ls xs) (fees G ls ys)

abbrev pub CutHolds : Type 0 → Type 0
CutHolds A = (n : ℕ) (b : ℕ → ℤ) (S : ℕ → Bool) (ls : List (Arc A)) (xs : List ℕ) → AllByRecursion (λ l. l.from < n) ls → AllByRecursion (λ l. l.to < n) ls → Feasible n b ls xs → pos (outward S ls) <ℤ owed n S b → ⊥

abbrev pub FullCut : Type 0 → Type 0
FullCut A = (n : ℕ) (S : ℕ → Bool) (ls : List (Arc A)) (xs : List ℕ) → AllByRecursion (λ l. l.from < n) ls → AllByRecursion (λ l. l.to < n) ls → Fits ls xs → AllFull S ls xs → owed n S (λ v. pos (gather (λ l. l.from) v ls xs) -ℤ pos (gather (λ l. l.to) v ls xs)) ≡ pos (outward S ls)

-- a walk shows a round trip below zero, or some simple walk to the same station totals no more
abbrev pub RoundTripsRemoved : {A : Type 0} → OrderedGroup A → Type 0
RoundTripsRemoved {A} G = (f : ℕ → Bool) (es : List (Edge A)) (v : ℕ) (us : List ℕ) (t : A) → Walk G (Passes f) (Among es) v us t → Reached G (Passes f) (Among es) ⊎ ((s : A) × SimpleWalk G (Passes f) (Among es) v s × G.le s t)

-- r tells the reached stations, and d v is the label of v
abbrev pub LabelsAreLeast : {A : Type 0} → OrderedGroup A → Type 0
LabelsAreLeast {A} G = (f r : ℕ → Bool) (es : List (Edge A)) (d : ℕ → A) → Label G (Passes f) (Among es) (Passes r) d → (v : ℕ) (us : List ℕ) → Walk G (Passes f) (Among es) v us (d v) → Least G (Passes f) (Among es) v (d v) × Price G (Passes f) (Among es) v (d v)

abbrev pub LabelsExcludeRoundTrips : {A : Type 0} → OrderedGroup A → Type 0
LabelsExcludeRoundTrips {A} G = (f r : ℕ → Bool) (es : List (Edge A)) (d : ℕ → A) → Label G (Passes f) (Among es) (Passes r) d → Reached G (Passes f) (Among es) → ⊥

-- price(end) ≤ price(start) + cost for every step
abbrev pub ReducedCostOfPrices : {A : Type 0} → OrderedGroup A → Type 0
ReducedCostOfPrices {A} G = (f : ℕ → Bool) (es : List (Edge A)) → (Reached G (Passes f) (Among es) → ⊥) → (u v : ℕ) (c s t : A) → Among es u v c → Price G (Passes f) (Among es) u s → Price G (Passes f) (Among es) v t → G.le t (G.add s c)

-- a station has one price, and it is the least total of all walks, simple or not
abbrev pub PriceIsLeast : {A : Type 0} → OrderedGroup A → Type 0
PriceIsLeast {A} G = (f : ℕ → Bool) (es : List (Edge A)) → (Reached G (Passes f) (Among es) → ⊥) → (v : ℕ) (s t : A) → (Price G (Passes f) (Among es) v s → Least G (Passes f) (Among es) v s) × (Least G (Passes f) (Among es) v s → Price G (Passes f) (Among es) v s) × (Price G (Passes f) (Among es) v s → Price G (Passes f) (Among es) v t → s ≡ t)

-- stations are below m + 1: a station that some walk reaches has a least total and a price
abbrev pub LeastTotalsExist : {A : Type 0} → OrderedGroup A → Type 0
LeastTotalsExist {A} G =
    (f : ℕ → Bool) (es : List (Edge A)) → (Reached G (Passes f) (Among es) → ⊥) → (m : ℕ) → ((u v : ℕ) (c : A) → Among es u v c → u < suc m)
    → (v : ℕ) → v < suc m → (us : List ℕ) (t : A) → Walk G (Passes f) (Among es) v us t → (s : A) × Least G (Passes f) (Among es) v s × Price G (Passes f) (Among es) v s

-- different numbers below n are at most n
abbrev pub FewDistinct : Type 0
FewDistinct = (n : ℕ) (vs : List ℕ) → Distinct vs → AllByRecursion (λ v. v < n) vs → length vs ≤ n

-- d k v is the label of v after k rounds: it is at most the total of every walk of at most k steps
abbrev pub RoundsReach : {A : Type 0} → OrderedGroup A → Type 0
RoundsReach {A} G = (f : ℕ → Bool) (es : List (Edge A)) (d : ℕ → ℕ → Option A) → Rounds G (Passes f) (Among es) (λ k v t. AtMost G (d k v) t) → (k v : ℕ) (us : List ℕ) (t : A) → Walk G (Passes f) (Among es) v us t → length us ≤ k → AtMost G (d k v) t

-- stations are below m + 1: where after m rounds a walk still totals less than the label, a round trip below zero is reached
abbrev pub RoundsShowTrip : {A : Type 0} → OrderedGroup A → Type 0
RoundsShowTrip {A} G =
    (f : ℕ → Bool) (es : List (Edge A)) (d : ℕ → ℕ → Option A) → Rounds G (Passes f) (Among es) (λ k v t. AtMost G (d k v) t) → (m : ℕ) → ((u v : ℕ) (c : A) → Among es u v c → u < suc m)
    → (v : ℕ) → v < suc m → (us : List ℕ) (t : A) → Walk G (Passes f) (Among es) v us t → (AtMost G (d m v) t → ⊥) → Reached G (Passes f) (Among es)

-- a plan that fits still does, and only the ends of the trail send out another number
abbrev pub PushAlongTrail : {A : Type 0} → OrderedGroup A → Type 0
PushAlongTrail {A} G = (d : Arc A) (ls : List (Arc A)) (xs : List ℕ) → length xs ≡ length ls → ((k : ℕ) → k < length ls → slice_index xs k ≤ (slice_index_or ls k d).room) → (b o v : ℕ) (ks : List ℕ) (c : A) (ys : List ℕ) → Trail G d ls xs b o v ks c ys → Pushed G d ls xs b o v ks c ys

-- where fees are convex; so one bike can be sent around it
abbrev pub RoundTripIsTrail : {A : Type 0} → OrderedGroup A → Type 0
RoundTripIsTrail {A} G = (d : Arc A) (ls : List (Arc A)) (xs : List ℕ) → ((k : ℕ) → Convex G (slice_index_or ls k d).fee) → (trip : RoundTrip G (Residual G d ls xs)) → Around G d ls xs trip.at trip.total
