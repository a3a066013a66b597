-- What the checks say.
--   Lowest        a number that passes a test, with none below it that does
--   NoneBelow     no number below m passes a test
--   Passed        what is settled once the checks have passed
--   LowestSays    the lowest number that passes a test is the lowest, and where there is none, none passes
--   PassedSay     the checks pass exactly where that is settled
use Rattle.std.specs.Prelude.{◌≡◌, ℕ, ◌<◌, ◌≤◌, Bool, true, length, pos, negsuc, ◌≤ℤ◌, None, MatchOption, ◌≢◌}
use Rattle.network.specs.Nets.{Net}
use Rattle.plans.specs.Plans.{stations, leg_at, balance_at, EndsBelow}
use Rattle.certificates.specs.Totals.{total_below}
use Rattle.planning_rules.specs.Checks.{lowest, planning_fault}
use Rattle.planning_rules.specs.declared.lengths.Lengths.{Lengths}

abbrev pub NoneBelow : (ℕ → Bool) → ℕ → Type 0
NoneBelow passes m = (k : ℕ) → k < m → passes k ≢ true

pub record Lowest (passes : ℕ → Bool) (m k : ℕ) : Type 0 where
  pub below : k < m
  pub here : passes k ≡ true
  pub none_lower : NoneBelow passes k

abbrev pub LowestSays : Type 0
LowestSays = (passes : ℕ → Bool) (m : ℕ) → MatchOption (lowest passes m) (NoneBelow passes m) (Lowest passes m)

-- slices and tables that suffice; legs between different stations, with capacities to 500 and charges to 10,000; balances
-- from -120,000 to 120,000 that sum to 0
pub record Passed (net : Net) (lengths : Lengths) : Type 0 where
  pub prices_suffice : stations net ≤ lengths.prices
  pub cut_suffices : stations net ≤ lengths.cut
  pub stations_suffice : 240 ≤ lengths.station_entries
  pub legs_suffice : 3000 ≤ lengths.leg_entries
  pub ends_below : EndsBelow net
  pub ends_differ : (k : ℕ) → k < length net.legs → (leg_at net k).start ≢ (leg_at net k).end
  pub few_bikes : (k : ℕ) → k < length net.legs → (leg_at net k).capacity ≤ 500
  pub low_charge : (k : ℕ) → k < length net.legs → (leg_at net k).charge ≤ 10000
  pub at_least : (v : ℕ) → v < stations net → negsuc 119999 ≤ℤ balance_at net v
  pub at_most : (v : ℕ) → v < stations net → balance_at net v ≤ℤ pos 120000
  pub even : total_below (stations net) (balance_at net) ≡ pos 0

abbrev pub PassedSay : Type 0
PassedSay = (net : Net) (lengths : Lengths) → (planning_fault net lengths ≡ None → Passed net lengths) × (Passed net lengths → planning_fault net lengths ≡ None)
