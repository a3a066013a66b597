-- Networks and plans over any ordered group.
--   Arc            a leg: its ends, its room, and what each amount on it costs
--   gather         the sum of the amounts on the legs that have an end at a station
--   Fits           each leg has one amount, within its room
--   Feasible       a plan that fits and gives each station its balance
--   times          a member of the group, so many times
--   sum_to         the sum over the stations below a number
--   along          the sum over the legs of the amount times a member of the leg
--   fees           what a plan costs
--   Convex         each further bike on a leg costs no less than the one before it
--   Tight          no residual step of one leg, at an amount, undercuts the potential's rise along it
--   ReducedCosts   no residual step of a leg, at an amount, undercuts a potential
--   Uncut          the same of every leg of a plan
--   outward        the room of the legs that lead out of a set of stations
--   owed           what the stations of a set have to send out
--   Full, AllFull  no residual step of a leg leaves a set; of no leg
use Rattle.std.specs.Prelude.{◌≡◌, ℕ, zero, suc, ◌+◌, ◌<◌, ◌≤◌, Bool, true, false, cond, not, ◌&&◌, List, [], ◌∷◌, ℤ, pos, ◌+ℤ◌, ◌-ℤ◌, ◌==◌}
use Rattle.theory.specs.Groups.{OrderedGroup}

-- `room` is the capacity in force, `fee x` the cost of the amount x
pub record Arc (A : Type 0) : Type 0 where
  pub from : ℕ
  pub to : ℕ
  pub room : ℕ
  pub fee : ℕ → A

-- `at` says which end of a leg is meant
abbrev pub gather : {L : Type 0} → (L → ℕ) → ℕ → List L → List ℕ → ℕ
gather at v [] xs = 0
gather at v (l ∷ ls) [] = 0
gather at v (l ∷ ls) (x ∷ xs) = cond (at l == v) x 0 + gather at v ls xs

abbrev pub Fits : {A : Type 0} → List (Arc A) → List ℕ → Type 0
Fits [] [] = Unit {0}
Fits [] (x ∷ xs) = ⊥
Fits (l ∷ ls) [] = ⊥
Fits (l ∷ ls) (x ∷ xs) = (x ≤ l.room) × Fits ls xs

-- at each station below n, what goes out less what comes in is the balance
pub record Feasible {A : Type 0} (n : ℕ) (balance : ℕ → ℤ) (ls : List (Arc A)) (xs : List ℕ) : Type 0 where
  pub fits : Fits ls xs
  pub balanced : (v : ℕ) → v < n → pos (gather (λ l. l.from) v ls xs) -ℤ pos (gather (λ l. l.to) v ls xs) ≡ balance v

unfoldable pub times : {A : Type 0} → OrderedGroup A → ℕ → A → A
times G zero p = G.zero
times G (suc n) p = G.add p (times G n p)

unfoldable pub sum_to : {A : Type 0} → OrderedGroup A → ℕ → (ℕ → A) → A
sum_to G zero h = G.zero
sum_to G (suc n) h = G.add (h n) (sum_to G n h)

unfoldable pub along : {A L : Type 0} → OrderedGroup A → (L → A) → List L → List ℕ → A
along G q [] xs = G.zero
along G q (l ∷ ls) [] = G.zero
along G q (l ∷ ls) (x ∷ xs) = G.add (times G x (q l)) (along G q ls xs)

unfoldable pub fees : {A : Type 0} → OrderedGroup A → List (Arc A) → List ℕ → A
fees G [] xs = G.zero
fees G (l ∷ ls) [] = G.zero
fees G (l ∷ ls) (x ∷ xs) = G.add (l.fee x) (fees G ls xs)

unfoldable pub Convex : {A : Type 0} → OrderedGroup A → (ℕ → A) → Type 0
Convex G f = (k : ℕ) → G.le (G.add (f (suc k)) (f (suc k))) (G.add (f k) (f (suc (suc k))))

-- at the amount x: one bike more costs at least p, and one bike less saves at most p
pub record Tight {A : Type 0} (G : OrderedGroup A) (f : ℕ → A) (p : A) (most x : ℕ) : Type 0 where
  pub more : x < most → G.le (G.add (f x) p) (f (suc x))
  pub less : (j : ℕ) → x ≡ suc j → G.le (f (suc j)) (G.add (f j) p)

-- at the amount x: the potential at the end of a residual step is at most that at its start and the step's cost
pub record ReducedCosts {A : Type 0} (G : OrderedGroup A) (π : ℕ → A) (l : Arc A) (x : ℕ) : Type 0 where
  pub more : x < l.room → G.le (π l.to) (G.add (π l.from) (G.add (l.fee (suc x)) (G.neg (l.fee x))))
  pub less : (j : ℕ) → x ≡ suc j → G.le (π l.from) (G.add (π l.to) (G.add (l.fee j) (G.neg (l.fee (suc j)))))

abbrev pub Uncut : {A : Type 0} → OrderedGroup A → (ℕ → A) → List (Arc A) → List ℕ → Type 0
Uncut G π [] xs = Unit {0}
Uncut G π (l ∷ ls) [] = Unit {0}
Uncut G π (l ∷ ls) (x ∷ xs) = ReducedCosts G π l x × Uncut G π ls xs

-- a set of stations is a test
abbrev pub outward : {A : Type 0} → (ℕ → Bool) → List (Arc A) → ℕ
outward S [] = 0
outward S (l ∷ ls) = cond (S l.from && not (S l.to)) l.room 0 + outward S ls

abbrev pub owed : ℕ → (ℕ → Bool) → (ℕ → ℤ) → ℤ
owed zero S b = pos 0
owed (suc n) S b = cond (S n) (b n) (pos 0) +ℤ owed n S b

-- a leg outwards carries all that it can, a leg inwards nothing
pub record Full {A : Type 0} (S : ℕ → Bool) (l : Arc A) (x : ℕ) : Type 0 where
  pub more : S l.from ≡ true → S l.to ≡ false → l.room ≤ x
  pub less : S l.to ≡ true → S l.from ≡ false → x ≡ 0

abbrev pub AllFull : {A : Type 0} → (ℕ → Bool) → List (Arc A) → List ℕ → Type 0
AllFull S [] xs = Unit {0}
AllFull S (l ∷ ls) [] = Unit {0}
AllFull S (l ∷ ls) (x ∷ xs) = Full S l x × AllFull S ls xs
