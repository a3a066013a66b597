-- What one write to a lent record does to the table's meaning.
use Rattle.std.proofs.Common.{◌≡◌, ℕ, ◌<◌, ◌≤◌, List, length, get_or, take, drop, set, ℤ, None, sym, ap, refl, ◌∙◌, arith, w32, SFits, to_z, of_z}
use Rattle.std.proofs.lemmas.List.{length-map, length-take, length-set, map-set, drop-set-lt, get_or-take}
use Rattle.std.proofs.Math.Seq.{map-set_same, take-set-lt}
use Rattle.std.proofs.lemmas.Int.{to_z-of_z}
use Rattle.records.specs.Cleared.{cleared_leg}
use Rattle.records.specs.declared.leg.Leg.{Leg}
use Rattle.records.specs.declared.leg.Mark.{Mark}
use Rattle.records.specs.declared.leg.Mark.TheVariants.{Open}
use Rattle.records.specs.declared.station.Station.{Station}
use Rattle.network.specs.Nets.{Net, unasked, marks_of}
use Rattle.network.specs.Offices.{report_fault, mark_fault, reported, remarked, with_mark}
use Rattle.network.proofs.Faults.{report_open, mark_road}
use Rattle.network.proofs.Reported.{all_open}
use Rattle.table.specs.Lent.{unmarked}
use Rattle.table.specs.Tables.{balances_of, table_of}

-- a station that has the balance z
abbrev having : ℤ → Station
having z = record { balance = z }

-- a place of a front is a place of the whole, below the front's limit
pub within_front : {X : Type 0} (n : ℕ) (xs : List X) (i : ℕ) → i < length (take n xs) → (i < length xs) × (i < n)
within_front n xs i h = let k = simp length-take at h in (omega arith, omega arith)

-- a write to a front
write_front : {X : Type 0} (n : ℕ) (xs : List X) (i : ℕ) (y : X) → i < length (take n xs) → take n (set xs i y) ≡ set (take n xs) i y
write_front n xs i y h = take-set-lt n xs i y (within_front n xs i h).1

same_length : {X : Type 0} (n : ℕ) (xs : List X) (i : ℕ) (y : X) → length (take n (set xs i y)) ≡ length (take n xs)
same_length n xs i y = simp (length-take, length-set)

balances_set : (ss : List Station) (i : ℕ) (z : ℤ) → i < length (take 240 ss) → balances_of (take 240 (set ss i (having z))) ≡ set (balances_of (take 240 ss)) i z
balances_set ss i z h = ap balances_of (write_front 240 ss i (having z) h) ∙ map-set (λ (s : Station). s.balance) (take 240 ss) i (having z)

-- an accepted report
reported_as : (ls : List Leg) (ss : List Station) (s : ℕ) (b : ℤ) → s < length (take 240 ss) → table_of ls (set ss s (having b)) ≡ reported (table_of ls ss) s b
reported_as ls ss s b h =
    let a : ℕ = length (take 240 ss) in
    let bs : List ℤ = balances_of (take 240 ss) in
    let few : length bs ≤ a = simp length-map (omega arith) in
    let there : s < length bs = simp length-map h in
    ap (λ (n : ℕ). let k : Net = record { legs = take 3000 ls; balances = balances_of (take 240 (set ss s (having b))); open_stations = n; road_legs = length (take 3000 ls); rule = unasked } in k) (same_length 240 ss s (having b))
    ∙ ap (λ (v : List ℤ). let k : Net = record { legs = take 3000 ls; balances = v; open_stations = a; road_legs = length (take 3000 ls); rule = unasked } in k)
    (balances_set ss s b h ∙ all_open a unasked bs (marks_of (take 3000 ls)) s b few there)

pub report_writes : (ls : List Leg) (ss : List Station) (s : ℕ) (b : ℤ) → report_fault (length (take 240 ss)) s b ≡ None → SFits w32 b
    → table_of ls (set ss s (having (to_z w32 (of_z w32 b)))) ≡ reported (table_of ls ss) s b
report_writes ls ss s b e f = ap (λ z. table_of ls (set ss s (having z))) (to_z-of_z w32 b f) ∙ reported_as ls ss s b (report_open (length (take 240 ss)) s b e)

-- an accepted closing or reopening
pub mark_writes : (ls : List Leg) (ss : List Station) (i : ℕ) (k : Mark) → mark_fault (length (take 3000 ls)) (take 3000 ls) i k ≡ None
    → table_of (set ls i (with_mark k (get_or ls i cleared_leg))) ss ≡ remarked (table_of ls ss) i k
mark_writes ls ss i k e =
    let h : i < length (take 3000 ls) = mark_road (length (take 3000 ls)) (take 3000 ls) i k e in
    let x : Leg = with_mark k (get_or ls i cleared_leg) in
    ap (λ (n : ℕ). let m : Net = record { legs = take 3000 (set ls i x); balances = balances_of (take 240 ss); open_stations = length (take 240 ss); road_legs = n; rule = unasked } in m) (same_length 3000 ls i x)
    ∙ ap (λ (v : List Leg). let m : Net = record { legs = v; balances = balances_of (take 240 ss); open_stations = length (take 240 ss); road_legs = length (take 3000 ls); rule = unasked } in m)
    (write_front 3000 ls i x h ∙ ap (λ (l : Leg). set (take 3000 ls) i (with_mark k l)) (sym (get_or-take 3000 ls i cleared_leg (within_front 3000 ls i h).1)))

-- a report that code found without fault
pub report_clear : (ss : List Station) (a s : ℕ) (b : ℤ) → a ≡ length (take 240 ss) → SFits w32 b → report_fault a s (to_z w32 (of_z w32 b)) ≡ None
    → report_fault (length (take 240 ss)) s b ≡ None
report_clear ss a s b e f h = sym (ap (λ (n : ℕ). report_fault n s b) e) ∙ sym (ap (report_fault a s) (to_z-of_z w32 b f)) ∙ h

-- the record that is written is there
pub report_there : (ss : List Station) (s : ℕ) (b : ℤ) → report_fault (length (take 240 ss)) s b ≡ None → (s < length ss) × (s < 240)
report_there ss s b e = within_front 240 ss s (report_open (length (take 240 ss)) s b e)

pub mark_there : (ls : List Leg) (i : ℕ) (k : Mark) → mark_fault (length (take 3000 ls)) (take 3000 ls) i k ≡ None → (i < length ls) × (i < 3000)
mark_there ls i k e = within_front 3000 ls i (mark_road (length (take 3000 ls)) (take 3000 ls) i k e)

-- the records beyond the limit stay
pub mark_keeps : (ls : List Leg) (i : ℕ) (k : Mark) → mark_fault (length (take 3000 ls)) (take 3000 ls) i k ≡ None
    → drop 3000 (set ls i (with_mark k (get_or ls i cleared_leg))) ≡ drop 3000 ls
mark_keeps ls i k e = drop-set-lt 3000 ls i (with_mark k (get_or ls i cleared_leg)) (mark_there ls i k e).1

-- nothing but the mark is written
pub mark_alone : (ls : List Leg) (i : ℕ) (k : Mark) → unmarked (set ls i (with_mark k (get_or ls i cleared_leg))) ≡ unmarked ls
mark_alone ls i k = map-set_same (with_mark Open) ls i (with_mark k (get_or ls i cleared_leg)) cleared_leg refl
