-- One line more of a text that is read.
--   sofar_more       a line that is taken and entered
--   filled_refused   a line that is refused, or a text that is too long, decides the reading
--   filled_for       what is filled, for the text and the tables of a call
use Rattle.std.proofs.Common.{◌≡◌, ℕ, ◌+◌, ◌<◌, ◌≤◌, List, [], ◌∷◌, length, drop, Some, None, Ok, Err, Option, Result, sym, refl, ap, ◌∙◌, subst, ⊎_elim, add-one}
use Rattle.std.proofs.lemmas.Bool.{cases_lt, le-leb, lt-leb}
use Rattle.records.specs.declared.leg.Leg.{Leg}
use Rattle.records.specs.declared.station.Station.{Station}
use Rattle.records.specs.declared.refusal.Refusal.{Refusal}
use Rattle.lines.specs.Scan.{scan}
use Rattle.lines.specs.declared.line.Line.{Line}
use Rattle.text_rules.specs.Judging.{judged}
use Rattle.text_rules.specs.Reading.{progress_of, ruled, run, ◌next◌, reading}
use Rattle.text_rules.specs.Rows.{rows}
use Rattle.text_rules.specs.declared.progress.Header.{Header}
use Rattle.text_rules.specs.declared.progress.Progress.{Progress}
use Rattle.text_rules.specs.declared.progress.Room.{Room}
use Rattle.reader.specs.Taking.{State, TookLine, row_at, next_place, judged_row, behind_next}
use Rattle.reader.specs.Entering.{Filled, legs_with, stations_with}
use Rattle.reader.proofs.Passing.{passed}
use Rattle.reader.proofs.RowEnds.{rows_at}
use Rattle.reader.proofs.Sofar.{Sofar, sound_more, legs_more, stations_more}

run_more : (room : Room) (before : List Line) (row : List ℕ) (rest : List (List ℕ)) (l : Line) (q : Progress) → scan row ≡ Some l
    → judged room (progress_of before) (length before + 1) l ≡ Ok q → run room before (row ∷ rest) ≡ run room (l ∷ before) rest
run_more room before row rest l q spelled kept =
    ap (λ o. ruled room before o next λ k. run room (k ∷ before) rest) spelled
    ∙ ap (λ r. (r next λ p. Ok l) next λ k. run room (k ∷ before) rest) kept

pub sofar_more : (s s' : State) (l : Line) (legs : List Leg) (stations : List Station) → Sofar s legs stations
    → TookLine (Ok (Some l)) s s' → Sofar s' (legs_with l s'.progress.arcs legs) (stations_with l stations)
sofar_more s s' l legs stations so took =
    let before : List Line = so.before in
    let kept : judged s.room (progress_of before) (length before + 1) l ≡ Ok s'.progress =
    subst (λ x. judged s.room x (length before + 1) l ≡ Ok s'.progress) so.settled
    (subst (λ n. judged s.room s.progress (n + 1) l ≡ Ok s'.progress) so.counted took.3) in
    let pass = passed s.room (progress_of before) (length before + 1) l s'.progress kept in
    let further : Sofar (behind_next s s'.progress) (legs_with l s'.progress.arcs legs) (stations_with l stations) =
    record {
      before = l ∷ before;
      settled = pass.after;
      counted = ap (λ n. n + 1) so.counted ∙ add-one (length before);
      to_come =
          sym (run_more s.room before (row_at s.text s.place) (rows (drop (next_place s.text s.place) s.text)) l s'.progress took.2 kept)
          ∙ ap (run s.room before) (sym (rows_at s.text s.place took.1)) ∙ so.to_come;
      legs_held = legs_more s.room before l s'.progress legs so.sound pass so.legs_held;
      stations_held = stations_more s.room before l s'.progress stations so.sound pass so.stations_held;
      sound = sound_more s.room before l s'.progress so.sound pass;
    } in
    subst (λ x. Sofar x (legs_with l s'.progress.arcs legs) (stations_with l stations)) (sym took.4) further

run_refused : (room : Room) (before : List Line) (row : List ℕ) (rest : List (List ℕ)) (o : Option Line) (e : Refusal) → scan row ≡ o
    → judged_row room (progress_of before) (length before + 1) o ≡ Err e → run room before (row ∷ rest) ≡ Err e
run_refused room before row rest None e spelled broken =
    ap (λ o. ruled room before o next λ k. run room (k ∷ before) rest) spelled
    ∙ ap (λ r. r next λ p. run room [] []) broken
run_refused room before row rest (Some l) e spelled broken =
    ap (λ o. ruled room before o next λ k. run room (k ∷ before) rest) spelled
    ∙ ap (λ r. (r next λ p. Ok l) next λ k. run room (k ∷ before) rest) broken

line_refused : (s : State) (legs : List Leg) (stations : List Station) (e : Refusal) → Sofar s legs stations → s.place < length s.text
    → judged_row s.room s.progress (s.lines + 1) (scan (row_at s.text s.place)) ≡ Err e → run s.room [] (rows s.text) ≡ Err e
line_refused s legs stations e so inside broken =
    let before : List Line = so.before in
    let o : Option Line = scan (row_at s.text s.place) in
    let here : judged_row s.room (progress_of before) (length before + 1) o ≡ Err e =
    subst (λ x. judged_row s.room x (length before + 1) o ≡ Err e) so.settled
    (subst (λ n. judged_row s.room s.progress (n + 1) o ≡ Err e) so.counted broken) in
    sym so.to_come ∙ ap (run s.room before) (rows_at s.text s.place inside)
    ∙ run_refused s.room before (row_at s.text s.place) (rows (drop (next_place s.text s.place) s.text)) o e refl here

reading_short : (room : Room) (text : List ℕ) → length text ≤ 65536 → reading room text ≡ run room [] (rows text)
reading_short room text short = rw (le-leb (length text) 65536 short) refl

pub filled_refused : (s s' : State) (legs : List Leg) (stations : List Station) (e : Refusal) → Sofar s legs stations
    → TookLine (Err e) s s' → reading s.room s.text ≡ Err e
filled_refused s s' legs stations e so took =
    ⊎_elim
    (λ (long : 65536 < length s.text).
    let over = lt-leb (length s.text) 65536 long in rw over (ap (λ r. r next λ q. run s.room [] []) (rw over at took.1)))
    (λ (short : length s.text ≤ 65536).
    let under = le-leb (length s.text) 65536 short in
    reading_short s.room s.text short ∙ line_refused s legs stations e so (took.0 short) (rw under at took.1))
    (cases_lt 65536 (length s.text))

pub filled_for : (r : Result Header Refusal) (room room' : Room) (text text' : List ℕ) (legs : List Leg) (stations : List Station)
    → text' ≡ text → room' ≡ room → Filled r room' text' legs stations → Filled r room text legs stations
filled_for r room room' text text' legs stations same_text same_room filled =
    subst (λ x. Filled r x text legs stations) same_room (subst (λ t. Filled r room' t legs stations) same_text filled)
