-- What a planning refuses before it searches.
--   lowest          the lowest number below m that passes a test
--   too_short       whether a slice or a working table is too short
--   senseless_leg   whether a leg makes no sense
--   senseless       the same by the leg's number
--   too_large       whether a balance is too far from 0
--   zero_sum        whether a sum is 0
--   uneven          whether the balances do not sum to 0
--   planning_fault  number and place of the refusal that a planning deserves before it searches, or none
--   Checks          what the call answers
use Rattle.std.specs.Prelude.{◌≡◌, ℕ, zero, suc, Bool, false, if◌then◌else◌, not, ◌||◌, length, ℤ, pos, negsuc, Some, None, Ok, Err, Option, Result, ◌==◌, int_lt, nat_le, nat_lt}
use Rattle.std.specs.Option.{option_map, option_or}
use Rattle.records.specs.Refusals.{number, place}
use Rattle.records.specs.declared.leg.Leg.{Leg}
use Rattle.records.specs.declared.refusal.Refusal.{Refusal}
use Rattle.network.specs.Nets.{Net}
use Rattle.plans.specs.Plans.{stations, leg_at, balance_at}
use Rattle.certificates.specs.Totals.{total_below}
use Rattle.planning_rules.specs.declared.lengths.Lengths.{Lengths}

-- one below m, else m itself if it passes
abbrev pub lowest : (ℕ → Bool) → ℕ → Option ℕ
lowest passes zero = None
lowest passes (suc m) = option_or (lowest passes m) (if passes m then Some m else None)

-- the slices need an entry for each station, the working tables one for each station and each leg that a network can have
abbrev pub too_short : Net → Lengths → Bool
too_short net lengths = nat_lt lengths.prices (stations net) || (nat_lt lengths.cut (stations net) || (nat_lt lengths.station_entries 240 || nat_lt lengths.leg_entries 3000))

-- among n stations: an end that is no station, the same station at both ends, more bikes than 500 or more cents than 10,000;
-- an open leg and a shut one are judged alike
abbrev pub senseless_leg : ℕ → Leg → Bool
senseless_leg n l = nat_le n l.start || (nat_le n l.end || (l.start == l.end || (nat_lt 500 l.capacity || nat_lt 10000 l.charge)))

abbrev pub senseless : Net → ℕ → Bool
senseless net k = senseless_leg (stations net) (leg_at net k)

-- below -120,000 or above 120,000
abbrev pub too_large : Net → ℕ → Bool
too_large net v = int_lt (balance_at net v) (negsuc 119999) || int_lt (pos 120000) (balance_at net v)

abbrev pub zero_sum : ℤ → Bool
zero_sum (pos a) = a == 0
zero_sum (negsuc a) = false

abbrev pub uneven : Net → Bool
uneven net = not (zero_sum (total_below (stations net) (balance_at net)))

-- slices and tables first, then the lowest senseless leg, then the lowest station whose balance is too large, then the sum
abbrev pub planning_fault : Net → Lengths → Option (ℕ × ℕ)
planning_fault net lengths =
    if too_short net lengths then Some (11, 0) else
    (option_or (option_map (λ k. (12, k)) (lowest (senseless net) (length net.legs)))
    (option_or (option_map (λ v. (13, v)) (lowest (too_large net) (stations net)))
    (if uneven net then Some (14, 0) else None)))

-- accepted exactly when there is no fault
abbrev pub Checks : Result (Unit {0}) Refusal → Option (ℕ × ℕ) → Type 0
Checks (Ok u) fault = fault ≡ None
Checks (Err e) fault = fault ≡ Some (number e, place e)
