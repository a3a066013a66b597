-- The numbers of the faults that a call can meet: from 7 to 14.
use Rattle.std.proofs.Common.{◌≡◌, ℕ, ◌≤◌, Bool, true, false, cond, ltb, length, Some, None, Option, subst, arith}
use Rattle.std.specs.List.{slice_get}
use Rattle.std.specs.Option.{option_map, option_or}
use Rattle.records.specs.declared.leg.Mark.TheVariants.{Open, Shut}
use Rattle.network.specs.Nets.{Net}
use Rattle.network.specs.Offices.{reportable, has_mark}
use Rattle.plans.specs.Plans.{stations}
use Rattle.planning_rules.specs.Checks.{lowest, too_short, senseless, too_large, uneven, planning_fault}
use Rattle.planning_rules.specs.declared.lengths.Lengths.{Lengths}
use Rattle.tally.specs.Tallies.{Tally}
use Rattle.tally.specs.Follows.{fault}
use Rattle.tally.specs.declared.call.Call.{Call}
use Rattle.tally.specs.declared.call.Call.TheVariants.{Report, Close, Reopen, Plan, ListStations, ListRuns, Read}

-- of a fault by its number and place
abbrev pub IsMet : ℕ × ℕ → Type 0
IsMet f = (7 ≤ f.0) × (f.0 ≤ 14)

abbrev Met : Option (ℕ × ℕ) → Type 0
Met None = Unit {0}
Met (Some f) = IsMet f

cond_met : (b : Bool) (o u : Option (ℕ × ℕ)) → Met o → Met u → Met (cond b o u)
cond_met true o u p q = p
cond_met false o u p q = q

or_met : (o u : Option (ℕ × ℕ)) → Met o → Met u → Met (option_or o u)
or_met None u p q = q
or_met (Some f) u p q = p

placed_met : (n : ℕ) (o : Option ℕ) → 7 ≤ n → n ≤ 14 → Met (option_map (λ (k : ℕ). (n, k)) o)
placed_met n None l h = tt
placed_met n (Some k) l h = (l, h)

planning_met : (net : Net) (l : Lengths) → Met (planning_fault net l)
planning_met net l =
    cond_met (too_short net l) _ _ (omega arith, omega arith)
    (or_met _ _ (placed_met 12 (lowest (senseless net) (length net.legs)) (omega arith) (omega arith))
    (or_met _ _ (placed_met 13 (lowest (too_large net) (stations net)) (omega arith) (omega arith)) (cond_met (uneven net) _ _ (omega arith, omega arith) tt)))

met_by : (t : Tally) (call : Call) → Met (fault t call)
met_by t (Report s b) = cond_met (ltb s t.meaning.open_stations) _ _ (cond_met (reportable b) _ _ tt (omega arith, omega arith)) (omega arith, omega arith)
met_by t (Close k) = cond_met (ltb k t.meaning.road_legs) _ _ (cond_met (has_mark (slice_get t.meaning.legs k) Shut) _ _ (omega arith, omega arith) tt) (omega arith, omega arith)
met_by t (Reopen k) = cond_met (ltb k t.meaning.road_legs) _ _ (cond_met (has_mark (slice_get t.meaning.legs k) Open) _ _ (omega arith, omega arith) tt) (omega arith, omega arith)
met_by t (Plan l) = planning_met t.meaning l
met_by t (ListStations n) = cond_met (ltb n t.meaning.open_stations) _ _ (omega arith, omega arith) tt
met_by t (ListRuns n) = cond_met (ltb n (length t.meaning.legs)) _ _ (omega arith, omega arith) tt
met_by t (Read k) = tt

pub fault_meets : (t : Tally) (call : Call) (f : ℕ × ℕ) → fault t call ≡ Some f → IsMet f
fault_meets t call f e = subst Met e (met_by t call)
