-- What a planning answers and leaves.
--   the_plan     the plan in a table that may be longer: its first amounts, one for each leg
--   Accepted     a planning that found the best plan
--   Impossible   a planning that found a cut
--   Untouched    prices and cut stay
--   Refused      a planning that is refused: by the fault that it has before the search, if any, else as impossible
--   Planned      what a planning answers and leaves
use Rattle.std.specs.Prelude.{◌≡◌, ℕ, ◌≤◌, List, length, take, drop, ℤ, Some, None, Ok, Err, Option, Result}
use Rattle.records.specs.Refusals.{number, place}
use Rattle.records.specs.declared.refusal.Refusal.{Refusal}
use Rattle.network.specs.Nets.{Net}
use Rattle.plans.specs.Plans.{stations, Obeys, cents, difference, CheapestThenNearest}
use Rattle.plans.specs.Prices.{Prices}
use Rattle.plans.specs.Cuts.{Cut}
use Rattle.planning_rules.specs.Checks.{planning_fault}
use Rattle.planning_rules.specs.declared.lengths.Lengths.{Lengths}

abbrev pub the_plan : Net → List ℕ → List ℕ
the_plan net table = take (length net.legs) table

-- the plan is the best one, c and d are its cents and its difference from the standing plan, the first n prices are those of
-- the stations under it, further prices and the cut stay; a slice with n prices keeps its length
pub record Accepted (net : Net) (standing plan : List ℕ) (c d : ℕ) (prices prices' : List ℤ) (cut cut' : List ℕ) : Type 0 where
  pub best : CheapestThenNearest net standing plan
  pub costs : c ≡ cents net plan
  pub differs : d ≡ difference net standing plan
  pub priced : Prices net plan prices'
  pub prices_beyond : drop (stations net) prices' ≡ drop (stations net) prices
  pub prices_as_long : stations net ≤ length prices → length prices' ≡ length prices
  pub cut_stays : cut' ≡ cut

-- no plan obeys, the first `count` entries of the cut are a cut, further ones and the prices stay; a slice with as many
-- entries keeps its length
pub record Impossible (net : Net) (count : ℕ) (prices prices' : List ℤ) (cut cut' : List ℕ) : Type 0 where
  pub none_obeys : (plan : List ℕ) → Obeys net plan → ⊥
  pub room : count ≤ length cut'
  pub is_cut : Cut net (take count cut')
  pub cut_beyond : drop count cut' ≡ drop count cut
  pub cut_as_long : count ≤ length cut → length cut' ≡ length cut
  pub prices_stay : prices' ≡ prices

pub record Untouched (prices prices' : List ℤ) (cut cut' : List ℕ) : Type 0 where
  pub prices_stay : prices' ≡ prices
  pub cut_stays : cut' ≡ cut

-- by the number and the place of the fault before the search, else by 15, whose place is the count of the cut
abbrev pub Refused : Net → Option (ℕ × ℕ) → Refusal → List ℤ → List ℤ → List ℕ → List ℕ → Type 0
Refused net (Some f) e prices prices' cut cut' = (number e ≡ f.0) × (place e ≡ f.1) × Untouched prices prices' cut cut'
Refused net None e prices prices' cut cut' = (number e ≡ 15) × Impossible net (place e) prices prices' cut cut'

-- `amounts` is what the table of amounts holds afterwards
abbrev pub Planned : Net → List ℕ → Lengths → Result (ℕ × ℕ) Refusal → List ℤ → List ℤ → List ℕ → List ℕ → List ℕ → Type 0
Planned net standing lengths (Ok answer) prices prices' cut cut' amounts =
    (planning_fault net lengths ≡ None) × Accepted net standing (the_plan net amounts) answer.0 answer.1 prices prices' cut cut'
Planned net standing lengths (Err e) prices prices' cut cut' amounts = Refused net (planning_fault net lengths) e prices prices' cut cut'
