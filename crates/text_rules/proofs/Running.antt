-- What reading rows one after another comes to.
--   Good           lines, newest first, that some rows spell and that keep every rule
--   Taken          the lines of a whole text, which may be taken
--   Read, reads    a text is taken as its lines, or refused as the rules say
--   taken_reading, refused_reading   and so it is whenever they say so
use Rattle.std.proofs.Common.{◌≡◌, ℕ, ◌≤◌, leb, List, [], ◌∷◌, ◌++◌, length, Ok, Err, Result, sym, refl, ap, ◌∙◌, inl, inr, append_assoc, append-nil}
use Rattle.std.proofs.lemmas.Bool.{leb-true, leb-false, le-leb, lt-leb, cond_both}
use Rattle.records.specs.Refusals.{number, place}
use Rattle.records.specs.declared.refusal.Refusal.{Refusal}
use Rattle.records.specs.declared.refusal.Refusal.TheVariants.{TextTooLong}
use Rattle.lines.specs.Grammar.{Written}
use Rattle.lines.specs.Scan.{scan}
use Rattle.lines.specs.declared.line.Line.{Line}
use Rattle.text_rules.specs.Judging.{finished}
use Rattle.text_rules.specs.Reading.{progress_of, ◌next◌, ruled, run, reading, RefusedAs}
use Rattle.text_rules.specs.Rows.{Parted, rows}
use Rattle.text_rules.specs.Stated.{Spells, Lawful, Roomy, Complete, Refused}
use Rattle.text_rules.specs.declared.progress.Header.{Header}
use Rattle.text_rules.specs.declared.progress.Room.{Room}
use Rattle.text_rules.proofs.Parting.{rows_parted, parted_rows}
use Rattle.text_rules.proofs.Ruling.{Keeps, Ruled, ruling, ruled_keeps, ruled_lowest}
use Rattle.text_rules.proofs.Ending.{Ended, ending, ended_complete, ended_early}

pub record Good (room : Room) (lines : List Line) (spelling : List (List ℕ)) : Type 0 where
  pub spelled : Spells lines spelling
  pub lawful : Lawful lines
  pub roomy : Roomy room lines

pub record Taken (text : List ℕ) (room : Room) (lines : List Line) : Type 0 where
  pub short : length text ≤ 65536
  pub rows : List (List ℕ)
  pub parted : Parted rows text
  pub good : Good room lines rows
  pub complete : Complete lines

abbrev pub Read : List ℕ → Room → Result (List Line) Refusal → Type 0
Read text room (Ok lines) = Taken text room lines
Read text room (Err e) = Refused text room (number e) (place e)

good_more : (room : Room) (before : List Line) (l : Line) (done : List (List ℕ)) (row : List ℕ)
    → Good room before done → Written l row → Keeps room before l → Good room (l ∷ before) (done ++ (row ∷ []))
good_more room before l done row g w k =
    record {
      spelled = (done, row, refl, g.spelled, w);
      lawful = (k.ordered, k.ranged, k.counted, g.lawful);
      roomy = (k.roomed, g.roomy);
    }

module _ (text : List ℕ) (room : Room) (short : length text ≤ 65536) where
  ends_as : (lines : List Line) (done : List (List ℕ)) → Good room lines done → Parted done text
      → (r : Result Header Refusal) → Ended lines r → Read text room (r next λ sizes. Ok lines)
  ends_as lines done g p (Ok sizes) c = record { short = short; rows = done; parted = p; good = g; complete = c }
  ends_as lines done g p (Err e) h =
      inr (inr record {
        short = short;
        lines = lines;
        rows = done;
        parted = p;
        spelled = g.spelled;
        lawful = g.lawful;
        roomy = g.roomy;
        incomplete = h.0;
        numbered = h.1;
        placed = h.2;
      })

  -- a row is taken and the rows behind it are read on, or it is the first at fault
  goes_as : (before : List Line) (done : List (List ℕ)) (row : List ℕ) (rest : List (List ℕ))
      → Good room before done → Parted (done ++ (row ∷ rest)) text
      → (f : Line → Result (List Line) Refusal) → ((l : Line) → Good room (l ∷ before) (done ++ (row ∷ [])) → Read text room (f l))
      → (r : Result Line Refusal) → Ruled room before row r → Read text room (r next f)
  goes_as before done row rest g p f on (Ok l) (w, k) = on l (good_more room before l done row g w k)
  goes_as before done row rest g p f on (Err e) (low, at) =
      inr (inl record {
        short = short;
        before = before;
        earlier = done;
        row = row;
        later = rest;
        parted = p;
        spelled = g.spelled;
        lawful = g.lawful;
        roomy = g.roomy;
        lowest = low;
        placed = at;
      })

  runs : (rest : List (List ℕ)) (before : List Line) (done : List (List ℕ)) → Good room before done → Parted (done ++ rest) text
      → Read text room (run room before rest)
  runs [] before done g p =
      ends_as before done g (rw append-nil at p) (finished (progress_of before) (length before)) (ending before)
  runs (row ∷ rest) before done g p =
      goes_as before done row rest g p (λ l. run room (l ∷ before) rest)
      (λ l more. runs rest (l ∷ before) (done ++ (row ∷ [])) more (rw append_assoc p))
      (ruled room before (scan row)) (ruling room before row)

pub reads : (text : List ℕ) (room : Room) → Read text room (reading room text)
reads text room =
    cond_both (leb (length text) 65536) (run room [] (rows text)) (Err TextTooLong) (Read text room)
    (λ e. runs text room (leb-true _ _ e) (rows text) [] [] (record { spelled = refl; lawful = tt; roomy = tt }) (rows_parted text))
    (λ e. inl (leb-false _ _ e, refl, refl))

-- good lines are what the rows that spell them are read as
runs_to : (room : Room) (lines : List Line) (spelling more : List (List ℕ)) → Good room lines spelling
    → run room [] (spelling ++ more) ≡ run room lines more
runs_to room [] spelling more g = rw g.spelled
runs_to room (l ∷ before) spelling more g =
    let s = g.spelled in
    let w = g.lawful in
    let m = g.roomy in
    let kept : Keeps room before l = record { ordered = w.0; ranged = w.1; roomed = m.0; counted = w.2 } in
    let earlier : Good room before s.0 = record { spelled = s.3; lawful = w.3; roomy = m.1 } in
    rw (s.2, append_assoc) (runs_to room before s.0 (s.1 ∷ more) earlier
    ∙ ap (λ r. r next λ k. run room (k ∷ before) more) (ruled_keeps room before s.1 l s.4 kept))

runs_through : (room : Room) (lines : List Line) (spelling : List (List ℕ)) → Good room lines spelling
    → run room [] spelling ≡ run room lines []
runs_through room lines spelling g = ap (run room []) (sym (append-nil spelling)) ∙ runs_to room lines spelling [] g

reading_short : (text : List ℕ) (room : Room) (rs : List (List ℕ)) → length text ≤ 65536 → Parted rs text
    → reading room text ≡ run room [] rs
reading_short text room rs h p = rw (le-leb _ _ h, parted_rows rs text p)

pub taken_reading : (text : List ℕ) (room : Room) (lines : List Line) → Taken text room lines → reading room text ≡ Ok lines
taken_reading text room lines t =
    reading_short text room t.rows t.short t.parted
    ∙ (runs_through room lines t.rows t.good ∙ ended_complete room lines t.complete)

refused_next : {X Y : Type 0} (r : Result X Refusal) (f : X → Result Y Refusal) (k at : ℕ) → RefusedAs r k at → RefusedAs (r next f) k at
refused_next r f k at (e, is, n, p) = (e, ap (λ q. q next f) is, n, p)

pub refused_reading : (text : List ℕ) (room : Room) (k at : ℕ) → Refused text room k at → RefusedAs (reading room text) k at
refused_reading text room k at (inl (h, n, p)) = (TextTooLong, rw (lt-leb _ _ h), sym n, sym p)
refused_reading text room k at (inr (inl f)) =
    let g : Good room f.before f.earlier = record { spelled = f.spelled; lawful = f.lawful; roomy = f.roomy } in
    rw (reading_short text room _ f.short f.parted, runs_to room f.before f.earlier (f.row ∷ f.later) g, f.placed)
    (refused_next (ruled room f.before (scan f.row)) _ k _ (ruled_lowest room f.before f.row k f.lowest))
refused_reading text room k at (inr (inr s)) =
    let g : Good room s.lines s.rows = record { spelled = s.spelled; lawful = s.lawful; roomy = s.roomy } in
    rw (reading_short text room _ s.short s.parted, runs_through room s.lines s.rows g, s.numbered, s.placed)
    (ended_early room s.lines s.incomplete)
