-- What the calls of an office answer and leave.
--   reportable            a balance that may be reported
--   report_fault          the refusal that a report meets: its number and place
--   same_mark, has_mark   tests on marks
--   mark_fault            the refusal that a closing or a reopening meets: its number and place
--   Answers               a call's answer to a fault, or to none
--   balance_after         the balance of one station after a report
--   balances_after        all balances after a report
--   reported              a network after an accepted report
--   with_mark             a leg under another mark
--   remarked              a network after an accepted closing or reopening
--   Reports, Marks        a call's answer, with the network before and after it
use Rattle.std.specs.Prelude.{◌≡◌, ℕ, Bool, true, false, cond, ◌&&◌, List, map, length, ℤ, pos, negsuc, Some, None, Ok, Err, Option, Result, ◌==◌, int_le, nat_lt, slice_index_or, slice_set}
use Rattle.std.specs.List.{slice_get, range_with_len}
use Rattle.records.specs.Cleared.{cleared_leg}
use Rattle.records.specs.Refusals.{number, place}
use Rattle.records.specs.declared.leg.Leg.{Leg}
use Rattle.records.specs.declared.leg.Mark.{Mark}
use Rattle.records.specs.declared.leg.Mark.TheVariants.{Open, Shut}
use Rattle.records.specs.declared.refusal.Refusal.{Refusal}
use Rattle.network.specs.Nets.{Net, Rule, marks_of}

-- from -500 to 500
abbrev pub reportable : ℤ → Bool
reportable b = int_le (negsuc 499) b && int_le b (pos 500)

-- A fault is a refusal as a caller sees it, a number and a place; `number` and `place` read both off a `Refusal`.
-- 7 where the station is not open; else 8 where the number may not be reported; the place is the station
abbrev pub report_fault : ℕ → ℕ → ℤ → Option (ℕ × ℕ)
report_fault a s b = cond (nat_lt s a) (cond (reportable b) None (Some (8, s))) (Some (7, s))

-- two marks are the same; by cases, so that it computes wherever a mark is known
abbrev pub same_mark : Mark → Mark → Bool
same_mark Open Open = true
same_mark Open Shut = false
same_mark Shut Open = false
same_mark Shut Shut = true

-- a leg that is there and has the mark
abbrev pub has_mark : Option Leg → Mark → Bool
has_mark None k = false
has_mark (Some l) k = same_mark l.mark k

-- 9 where the leg is no road leg; else 10 where it has the mark already; the place is the leg
abbrev pub mark_fault : ℕ → List Leg → ℕ → Mark → Option (ℕ × ℕ)
mark_fault r ls i k = cond (nat_lt i r) (cond (has_mark (slice_get ls i) k) (Some (10, i)) None) (Some (9, i))

-- a call answers a fault by the refusal with its number and place, and is accepted where there is none
abbrev pub Answers : Result (Unit {0}) Refusal → Option (ℕ × ℕ) → Type 0
Answers (Ok u) fault = fault ≡ None
Answers (Err e) fault = fault ≡ Some (number e, place e)

-- after station s reports b: an open station has b if it is s, else what it had; any other has what the rule says
abbrev pub balance_after : ℕ → Rule → List ℤ → List Mark → ℕ → ℤ → ℕ → ℤ
balance_after a rule bs ks s b v = cond (nat_lt v a) (cond (v == s) b (slice_index_or bs v (pos 0))) (rule bs ks s b v)

-- the same, for every station in order
abbrev pub balances_after : ℕ → Rule → List ℤ → List Mark → ℕ → ℤ → List ℤ
balances_after a rule bs ks s b = map (balance_after a rule bs ks s b) (range_with_len 0 (length bs))

-- only balances change
abbrev pub reported : Net → ℕ → ℤ → Net
reported n s b = record {
  legs = n.legs;
  balances = balances_after n.open_stations n.rule n.balances (marks_of n.legs) s b;
  open_stations = n.open_stations;
  road_legs = n.road_legs;
  rule = n.rule;
}

-- all but the mark stays
abbrev pub with_mark : Mark → Leg → Leg
with_mark k l = record { start = l.start; end = l.end; capacity = l.capacity; charge = l.charge; mark = k }

-- only the mark of leg i changes
abbrev pub remarked : Net → ℕ → Mark → Net
remarked n i k = record {
  legs = slice_set n.legs i (with_mark k (slice_index_or n.legs i cleared_leg));
  balances = n.balances;
  open_stations = n.open_stations;
  road_legs = n.road_legs;
  rule = n.rule;
}

-- a report on n that leaves m: accepted exactly when it meets no fault, and else nothing is altered
abbrev pub Reports : Result (Unit {0}) Refusal → Net → Net → ℕ → ℤ → Type 0
Reports (Ok u) n m s b = (report_fault n.open_stations s b ≡ None) × (m ≡ reported n s b)
Reports (Err e) n m s b = (report_fault n.open_stations s b ≡ Some (number e, place e)) × (m ≡ n)

-- the same of a closing, where the mark is Shut, and of a reopening, where it is Open
abbrev pub Marks : Result (Unit {0}) Refusal → Net → Net → ℕ → Mark → Type 0
Marks (Ok u) n m i k = (mark_fault n.road_legs n.legs i k ≡ None) × (m ≡ remarked n i k)
Marks (Err e) n m i k = (mark_fault n.road_legs n.legs i k ≡ Some (number e, place e)) × (m ≡ n)
