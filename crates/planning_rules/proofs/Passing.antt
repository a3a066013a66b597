-- What is settled once the checks have passed.
use Rattle.std.proofs.Common.{◌≡◌, ℕ, ◌<◌, ◌≤◌, Bool, true, false, cond, not, ◌||◌, length, ℤ, pos, negsuc, ◌≤ℤ◌, Some, None, Option, sym, refl, ap, ◌∙◌, arith, eqb, of_z, w64, MatchOption}
use lib.Signed.{lt_z, mag}
use Rattle.std.specs.Option.{option_map, option_or}
use Rattle.std.specs.List.{slice_get}
use Rattle.std.proofs.lemmas.Int.{ints}
use Rattle.std.proofs.lemmas.Bool.{ne_eqb, false_from_ne_true}
use Rattle.std.proofs.lemmas.Option.{get_or_from_slice_get}
use Rattle.network.proofs.Places.{get_or_none}
use Rattle.certificates.proofs.Balanced.{total_listed}
use Rattle.std.proofs.lemmas.Bool.Decides.{nat_tests}
use Rattle.records.specs.Cleared.{cleared_leg}
use Rattle.records.specs.declared.leg.Leg.{Leg}
use Rattle.network.specs.Nets.{Net, total}
use Rattle.plans.specs.Plans.{stations, leg_at, balance_at}
use Rattle.certificates.specs.Totals.{total_below}
use Rattle.planning_rules.specs.Checks.{lowest, too_short, senseless_leg, senseless, too_large, zero_sum, uneven, planning_fault}
use Rattle.planning_rules.specs.Theorems.{Passed, PassedSay}
use Rattle.planning_rules.specs.declared.lengths.Lengths.{Lengths}
use Rattle.planning_rules.proofs.Lowering.{none_below, of_none}

-- a leg that is not there has equal ends
none_senseless : (n : ℕ) → senseless_leg n cleared_leg ≡ true
none_senseless n = grind (arith, nat_tests)

-- a leg as code asks for it
pub judged_option : (net : Net) (k : ℕ) (o : Option Leg) (r : Bool) → o ≡ slice_get net.legs k → MatchOption o (r ≡ true) (λ l. r ≡ senseless_leg (stations net) l) → r ≡ senseless net k
judged_option net k None r e h = h ∙ sym (ap (senseless_leg (stations net)) (get_or_none net.legs k cleared_leg (sym e)) ∙ none_senseless (stations net))
judged_option net k (Some l) r e h = h ∙ ap (senseless_leg (stations net)) (sym (get_or_from_slice_get net.legs k l cleared_leg (sym e)))

-- the test on a sum as code makes it
uneven_by : (z : ℤ) → mag z < 9223372036854775808 → not (eqb (of_z w64 z) 0) ≡ not (zero_sum z)
uneven_by (pos a) f = refl
uneven_by (negsuc a) f = ap not (ne_eqb _ _ (omega arith))

pub uneven_sum : (net : Net) (z : ℤ) → z ≡ total net.balances → mag z < 9223372036854775808 → not (eqb (of_z w64 z) 0) ≡ uneven net
uneven_sum net z e f = uneven_by z f ∙ ap (λ v. not (zero_sum v)) (e ∙ sym (total_listed net))

-- ---- tests that fail
not_both : (b : Bool) → b ≡ false → b ≡ true → ⊥
not_both b f t = let z : ◌≡◌ {A = ℕ} 0 1 = cc in omega arith

-- ---- chains of refusals
past_test : {X : Type 0} (b : Bool) (x : X) (o : Option X) → cond b (Some x) o ≡ None → (b ≡ false) × (o ≡ None)
past_test true x o e = absurd (let z : ◌≡◌ {A = ℕ} 0 1 = cc in omega arith)
past_test false x o e = (refl, e)

past_place : {X : Type 0} (f : ℕ → X) (p : Option ℕ) (o : Option X) → option_or (option_map f p) o ≡ None → (p ≡ None) × (o ≡ None)
past_place f (Some k) o e = absurd (let z : ◌≡◌ {A = ℕ} 0 1 = cc in omega arith)
past_place f None o e = (refl, e)

-- ---- what each test says
long_enough : (net : Net) (lengths : Lengths) → too_short net lengths ≡ false → (stations net ≤ lengths.prices) × (stations net ≤ lengths.cut) × (240 ≤ lengths.station_entries) × (3000 ≤ lengths.leg_entries)
long_enough net lengths e = (grind (arith, nat_tests), grind (arith, nat_tests), grind (arith, nat_tests), grind (arith, nat_tests))

not_short : (net : Net) (lengths : Lengths) → stations net ≤ lengths.prices → stations net ≤ lengths.cut → 240 ≤ lengths.station_entries → 3000 ≤ lengths.leg_entries → too_short net lengths ≡ false
not_short net lengths a b c d = grind (arith, nat_tests)

sense : (n : ℕ) (l : Leg) → senseless_leg n l ≡ false → (l.start < n) × (l.end < n) × (l.start ≡ l.end → ⊥) × (l.capacity ≤ 500) × (l.charge ≤ 10000)
sense n l e = (grind (arith, nat_tests), grind (arith, nat_tests), λ q. grind (arith, nat_tests), grind (arith, nat_tests), grind (arith, nat_tests))

not_senseless : (n : ℕ) (l : Leg) → l.start < n → l.end < n → (l.start ≡ l.end → ⊥) → l.capacity ≤ 500 → l.charge ≤ 10000 → senseless_leg n l ≡ false
not_senseless n l a b d c e = grind (arith, nat_tests)

within : (b : ℤ) → (lt_z b (negsuc 119999) || lt_z (pos 120000) b) ≡ false → (negsuc 119999 ≤ℤ b) × (b ≤ℤ pos 120000)
within b e = (grind (arith, ints, nat_tests), grind (arith, ints, nat_tests))

not_large : (b : ℤ) → negsuc 119999 ≤ℤ b → b ≤ℤ pos 120000 → (lt_z b (negsuc 119999) || lt_z (pos 120000) b) ≡ false
not_large b h k = grind (arith, ints, nat_tests)

zero_even : (z : ℤ) → not (zero_sum z) ≡ false → z ≡ pos 0
zero_even (pos a) e = ap pos (grind (arith, nat_tests))
zero_even (negsuc a) e = absurd (let z : ◌≡◌ {A = ℕ} 0 1 = cc in omega arith)

even_zero : (z : ℤ) → z ≡ pos 0 → not (zero_sum z) ≡ false
even_zero z e = rw e refl

-- ---- all of them
passed : (net : Net) (lengths : Lengths) → planning_fault net lengths ≡ None → Passed net lengths
passed net lengths e =
    let p = past_test (too_short net lengths) _ _ e in
    let q = past_place _ (lowest (senseless net) (length net.legs)) _ p.1 in
    let r = past_place _ (lowest (too_large net) (stations net)) _ q.1 in
    let s = past_test (uneven net) _ _ r.1 in
    let l = long_enough net lengths p.0 in
    let leg = λ (k : ℕ) (h : k < length net.legs). sense (stations net) (leg_at net k) (false_from_ne_true (senseless net k) (none_below (senseless net) (length net.legs) q.0 k h)) in
    let b = λ (v : ℕ) (h : v < stations net). within (balance_at net v) (false_from_ne_true (too_large net v) (none_below (too_large net) (stations net) r.0 v h)) in
    record {
      prices_suffice = l.0;
      cut_suffices = l.1;
      stations_suffice = l.2;
      legs_suffice = l.3;
      ends_below = λ k h. ((leg k h).0, (leg k h).1);
      ends_differ = λ k h. (leg k h).2;
      few_bikes = λ k h. (leg k h).3;
      low_charge = λ k h. (leg k h).4;
      at_least = λ v h. (b v h).0;
      at_most = λ v h. (b v h).1;
      even = zero_even (total_below (stations net) (balance_at net)) s.0;
    }

passes : (net : Net) (lengths : Lengths) → Passed net lengths → planning_fault net lengths ≡ None
passes net lengths p =
    let short : too_short net lengths ≡ false = not_short net lengths p.prices_suffice p.cut_suffices p.stations_suffice p.legs_suffice in
    let leg : lowest (senseless net) (length net.legs) ≡ None =
    of_none (senseless net) (length net.legs) (λ k h. not_both (senseless net k) (not_senseless (stations net) (leg_at net k) (p.ends_below k h).0 (p.ends_below k h).1 (p.ends_differ k h) (p.few_bikes k h) (p.low_charge k h))) in
    let station : lowest (too_large net) (stations net) ≡ None = of_none (too_large net) (stations net) (λ v h. not_both (too_large net v) (not_large (balance_at net v) (p.at_least v h) (p.at_most v h))) in
    let even : uneven net ≡ false = even_zero (total_below (stations net) (balance_at net)) p.even in
    simp (short, leg, station, even)

pub say : PassedSay
say net lengths = (passed net lengths, passes net lengths)
