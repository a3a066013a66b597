-- Cuts: stations that have more to spare than can leave them.
--   among       whether a number stands in a list
--   sum_over    the sum of f over a list of stations
--   leaving     what the legs out of a list of stations can carry
--   Cut         a cut
--   left_over   what a plan leaves over at a station
--   Uncrossed   no step leads out of a list of stations
use Rattle.std.specs.Prelude.{◌≡◌, ℕ, ◌<◌, Bool, true, false, cond, not, ◌&&◌, ◌||◌, List, [], ◌∷◌, length, ℤ, pos, ◌+ℤ◌, ◌-ℤ◌, ◌<ℤ◌, ◌==◌}
use Rattle.std.specs.List.{AllByRecursion}
use Rattle.network.specs.Nets.{Net}
use Rattle.theory.specs.Walks.{Distinct}
use Rattle.plans.specs.Plans.{sum_below, stations, leg_at, balance_at, in_force, bikes_out, bikes_in}
use Rattle.plans.specs.declared.direction.Direction.{Direction}
use Rattle.plans.specs.Residuals.{Step}

abbrev pub among : ℕ → List ℕ → Bool
among v [] = false
among v (u ∷ us) = v == u || among v us

abbrev pub sum_over : (ℕ → ℤ) → List ℕ → ℤ
sum_over f [] = pos 0
sum_over f (v ∷ vs) = f v +ℤ sum_over f vs

-- the capacities in force of the legs from one of the stations to a station that is none of them
abbrev pub leaving : Net → List ℕ → ℕ
leaving net vs = sum_below (length net.legs) (λ k. cond (among (leg_at net k).start vs && not (among (leg_at net k).end vs)) (in_force (leg_at net k)) 0)

-- different stations whose balances sum to more than can leave them
pub record Cut (net : Net) (vs : List ℕ) : Type 0 where
  pub different : Distinct vs
  pub below : AllByRecursion (λ v. v < stations net) vs
  pub over : pos (leaving net vs) <ℤ sum_over (balance_at net) vs

-- the balance less what the plan sends out, net: negative where bikes are lacking
abbrev pub left_over : Net → List ℕ → ℕ → ℤ
left_over net plan v = balance_at net v -ℤ (pos (bikes_out net plan v) -ℤ pos (bikes_in net plan v))

-- whatever the steps cost
abbrev pub Uncrossed : {A : Type 0} → Net → List ℕ → (Direction → ℕ → A) → List ℕ → Type 0
Uncrossed {A} net plan cost vs = (u v : ℕ) (c : A) → Step net plan cost u v c → among u vs ≡ true → among v vs ≡ true
