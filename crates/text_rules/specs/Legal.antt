-- Networks that a text can state: within the ranges, and open.
--   LegLawful   a leg between two different of n stations, within the ranges, and open
--   Bounded     a balance within its range
--   Legal       stations and legs within the limits
use Rattle.std.specs.Prelude.{◌≡◌, ℕ, ◌<◌, ◌≤◌, List, length, ℤ, pos, negsuc, ◌≤ℤ◌}
use Rattle.std.specs.List.{AllByRecursion}
use Rattle.records.specs.declared.leg.Leg.{Leg}
use Rattle.records.specs.declared.leg.Mark.TheVariants.{Open}
use Rattle.records.specs.declared.station.Station.{Station}

pub record LegLawful (n : ℕ) (leg : Leg) : Type 0 where
  pub starts : leg.start < n
  pub ends : leg.end < n
  pub apart : leg.start ≡ leg.end → ⊥
  pub carries : leg.capacity ≤ 500
  pub costs : leg.charge ≤ 10000
  pub unshut : leg.mark ≡ Open

abbrev pub Bounded : ℤ → Type 0
Bounded z = (negsuc 499 ≤ℤ z) × (z ≤ℤ pos 500)

pub record Legal (stations : List Station) (legs : List Leg) : Type 0 where
  pub some : 1 ≤ length stations
  pub few : length stations ≤ 240
  pub few_legs : length legs ≤ 3000
  pub bounded : AllByRecursion (λ s. Bounded s.balance) stations
  pub lawful_legs : AllByRecursion (LegLawful (length stations)) legs
