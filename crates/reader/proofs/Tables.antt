-- The tables while a text is read: what a line enters keeps them the padded records of the lines so far.
use Rattle.std.proofs.Common.{◌≡◌, ℕ, suc, ◌+◌, ◌-◌, ◌<◌, ◌≤◌, eqb, List, [], ◌∷◌, ◌++◌, map, length, get_or, set, replicate, ℤ, pos, sym, refl, ap, ◌∙◌, ⊎_elim, arith}
use Rattle.std.specs.List.{range_with_len}
use Rattle.std.proofs.lemmas.List.{length_push, set_at, set-append_left, append_assoc, length-set, ext_get_or, get_or-set_same, get_or-set_other, replicate-append-replicate, length-replicate, get_or-replicate}
use Rattle.std.proofs.lemmas.List.FromFn.{length-map-range_with_len, get_or-map-range_with_len}
use Rattle.std.proofs.lemmas.Bool.{cond-true, cond-false, eq-eqb, ne_eqb, cases_eq}
use Rattle.records.specs.Cleared.{cleared_station}
use Rattle.records.specs.declared.station.Station.{Station}
use Rattle.lines.specs.declared.line.Line.{Line}
use Rattle.lines.specs.declared.line.Line.TheVariants.{Node}
use Rattle.text_rules.specs.Reading.{padded}
use Rattle.text_rules.specs.Stated.{balance_of, as_station, station_of}

-- one record more behind those of a padded table
pub padded_more : {X : Type 0} (blank v : X) (n : ℕ) (xs : List X) → length xs < n
    → set (padded blank n xs) (length xs) v ≡ padded blank n (xs ++ v ∷ [])
padded_more blank v n xs room =
    let k : n - length xs ≡ suc (n - (length xs + 1)) = omega arith in
    rw (k, length_push xs v)
    (set_at xs blank (replicate (n - (length xs + 1)) blank) v (length xs) refl
    ∙ sym (append_assoc xs (v ∷ []) (replicate (n - (length xs + 1)) blank)))

-- one record altered among those of a padded table
pub padded_set : {X : Type 0} (blank v : X) (n i : ℕ) (xs : List X) → i < length xs
    → set (padded blank n xs) i v ≡ padded blank n (set xs i v)
padded_set blank v n i xs inside =
    rw (length-set xs i v) (set-append_left xs (replicate (n - length xs) blank) i v inside)

pub padded_blank : {X : Type 0} (blank : X) (n k : ℕ) → k ≤ n → padded blank n (replicate k blank) ≡ replicate n blank
padded_blank blank n k h =
    let e : k + (n - k) ≡ n = omega arith in
    rw (length-replicate k blank) (replicate-append-replicate k (n - k) blank ∙ ap (λ m. replicate m blank) e)

-- a node line alters the balance of its station and no other
pub station_set : (before : List Line) (id n : ℕ) (flow : ℤ) → 1 ≤ id → id ≤ n
    → set (map (station_of before) (range_with_len 0 n)) (id - 1) (as_station flow) ≡ map (station_of (Node id flow ∷ before)) (range_with_len 0 n)
station_set before id n flow low high =
    let f : ℕ → Station = station_of before in
    let g : ℕ → Station = station_of (Node id flow ∷ before) in
    let v : Station = as_station flow in
    let l : List Station = map f (range_with_len 0 n) in
    let long = length-set l (id - 1) v ∙ length-map-range_with_len f 0 n in
    ext_get_or cleared_station _ _ (long ∙ sym (length-map-range_with_len g 0 n)) (λ i h.
    let inside : i < n = omega (arith, long) in
    let new = get_or-map-range_with_len g 0 n i i cleared_station inside (omega arith) in
    ⊎_elim
    (λ (e : i ≡ id - 1).
    let there : id - 1 < length l = omega (arith, length-map-range_with_len f 0 n) in
    let same : id ≡ i + 1 = omega arith in
    ap (λ j. get_or (set l (id - 1) v) j cleared_station) e ∙ get_or-set_same l (id - 1) v cleared_station there
    ∙ sym (new ∙ ap as_station (cond-true (eqb id (i + 1)) flow (balance_of before i) (eq-eqb id (i + 1) same))))
    (λ (ne : i ≡ id - 1 → ⊥).
    get_or-set_other l (id - 1) i v cleared_station ne ∙ get_or-map-range_with_len f 0 n i i cleared_station inside (omega arith)
    ∙ sym (new ∙ ap as_station (cond-false (eqb id (i + 1)) flow (balance_of before i) (ne_eqb id (i + 1) (λ e. ne (omega arith))))))
    (cases_eq i (id - 1)))

-- before the problem line no balance is known, so every station is cleared
pub stations_blank : (before : List Line) (n : ℕ) → ((k : ℕ) → balance_of before k ≡ pos 0)
    → map (station_of before) (range_with_len 0 n) ≡ replicate n cleared_station
stations_blank before n blank =
    let f : ℕ → Station = station_of before in
    ext_get_or cleared_station _ _ (length-map-range_with_len f 0 n ∙ sym (length-replicate n cleared_station)) (λ i h.
    let inside : i < n = omega (arith, length-map-range_with_len f 0 n) in
    get_or-map-range_with_len f 0 n i i cleared_station inside (omega arith) ∙ ap as_station (blank i)
    ∙ sym (get_or-replicate n i cleared_station cleared_station inside))
