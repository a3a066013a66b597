-- What judging one row comes to.
--   Keeps            a line keeps every rule, by the lines before it
--   Ruled, ruling    the row is taken as the line that it spells and that keeps every rule, or the refusal is that
--                    of the lowest rule broken
--   ruled_keeps      a line that keeps every rule is taken
--   ruled_lowest     the lowest rule broken is the refusal's
use Rattle.std.proofs.Common.{◌≡◌, ℕ, ◌+◌, ◌<◌, ◌≤◌, List, length, Some, None, Ok, Err, Option, Result, sym, refl, subst, inl, inr, arith}
use Rattle.std.proofs.lemmas.Bool.{cases_order, cond_both}
use Rattle.std.proofs.lemmas.Bool.Decides.{not_from_Decides}
use Rattle.records.specs.Refusals.{number, place}
use Rattle.records.specs.declared.refusal.Refusal.{Refusal}
use Rattle.records.specs.declared.refusal.Refusal.TheVariants.{LineOutOfOrder, FieldOutOfRange, TablesTooShort, ArcsMiscounted}
use Rattle.lines.specs.Grammar.{Written, Spelled}
use Rattle.lines.specs.Scan.{scan}
use Rattle.lines.specs.declared.line.Line.{Line}
use Rattle.lines.proofs.Forms.{written_scan, spells}
use Rattle.text_rules.specs.Judging.{in_order, in_range, has_room, in_count, judged, advanced}
use Rattle.text_rules.specs.Reading.{progress_of, ruled, ◌next◌, RefusedAs}
use Rattle.text_rules.specs.Rules.{InOrder, InRange, HasRoom, InCount, Rule, form, order, range, tables, count, rule_number, SpellsBut, Breaks, Lowest}
use Rattle.text_rules.specs.declared.progress.Progress.{Progress}
use Rattle.text_rules.specs.declared.progress.Room.{Room}
use Rattle.text_rules.proofs.Deciding.{decides_order, decides_range, decides_room, decides_count}

pub record Keeps (room : Room) (before : List Line) (l : Line) : Type 0 where
  pub ordered : InOrder before l
  pub ranged : InRange before l
  pub roomed : HasRoom room l
  pub counted : InCount before l

abbrev pub Ruled : Room → List Line → List ℕ → Result Line Refusal → Type 0
Ruled room before row (Ok l) = Written l row × Keeps room before l
Ruled room before row (Err e) = Lowest room before row (number e) × (place e ≡ length before + 1)

rule_range : (rule : Rule) → (2 ≤ rule_number rule) × (rule_number rule < 7)
rule_range form = (omega arith, omega arith)
rule_range order = (omega arith, omega arith)
rule_range range = (omega arith, omega arith)
rule_range tables = (omega arith, omega arith)
rule_range count = (omega arith, omega arith)

-- the only line that a row spells keeps what it keeps
holds_still : (row : List ℕ) (l : Line) → ((k : Line) → Written k row → k ≡ l)
    → (P : Line → Type 0) → P l → SpellsBut row P → ⊥
holds_still row l only P p (k, w, fails) = fails (subst P (sym (only k w)) p)

module _ (room : Room) (before : List Line) (row : List ℕ) where
  out_of_form : Spelled None row → Lowest room before row 2
  out_of_form s =
      record { rule = form; numbered = refl; broken = s; none_lower = λ other h _. let r = rule_range other in omega arith }

  module _ (l : Line) (s : Spelled (Some l) row) where
    -- the rules below a number are not broken where the line keeps them
    unbroken : (n : ℕ)
        → (3 < n → InOrder before l) → (4 < n → InRange before l) → (5 < n → HasRoom room l) → (6 < n → InCount before l)
        → (other : Rule) → rule_number other < n → Breaks room before row other → ⊥
    unbroken n o r t c form h b = b l s.0
    unbroken n o r t c order h b = holds_still row l s.1 (InOrder before) (o h) b
    unbroken n o r t c range h b = holds_still row l s.1 (InRange before) (r h) b
    unbroken n o r t c tables h b = holds_still row l s.1 (HasRoom room) (t h) b
    unbroken n o r t c count h b = holds_still row l s.1 (InCount before) (c h) b

    -- where every rule is kept, none is the lowest broken
    keeps_all : Keeps room before l → (k : ℕ) → Lowest room before row k → ⊥
    keeps_all kept k low =
        unbroken 7 (λ _. kept.ordered) (λ _. kept.ranged) (λ _. kept.roomed) (λ _. kept.counted)
        low.rule (rule_range low.rule).1 low.broken

    out_of_order : (InOrder before l → ⊥) → Lowest room before row 3
    out_of_order fails =
        record {
          rule = order;
          numbered = refl;
          broken = (l, s.0, fails);
          none_lower =
              unbroken 3 (λ h. absurd (omega arith)) (λ h. absurd (omega arith)) (λ h. absurd (omega arith)) (λ h. absurd (omega arith));
        }

    out_of_range : InOrder before l → (InRange before l → ⊥) → Lowest room before row 4
    out_of_range o fails =
        record {
          rule = range;
          numbered = refl;
          broken = (l, s.0, fails);
          none_lower = unbroken 4 (λ _. o) (λ h. absurd (omega arith)) (λ h. absurd (omega arith)) (λ h. absurd (omega arith));
        }

    out_of_room : InOrder before l → InRange before l → (HasRoom room l → ⊥) → Lowest room before row 5
    out_of_room o r fails =
        record {
          rule = tables;
          numbered = refl;
          broken = (l, s.0, fails);
          none_lower = unbroken 5 (λ _. o) (λ _. r) (λ h. absurd (omega arith)) (λ h. absurd (omega arith));
        }

    out_of_count : InOrder before l → InRange before l → HasRoom room l → (InCount before l → ⊥) → Lowest room before row 6
    out_of_count o r t fails =
        record {
          rule = count;
          numbered = refl;
          broken = (l, s.0, fails);
          none_lower = unbroken 6 (λ _. o) (λ _. r) (λ _. t) (λ h. absurd (omega arith));
        }

    judging : Ruled room before row (judged room (progress_of before) (length before + 1) l next λ p. Ok l)
    judging =
        let P : Result Progress Refusal → Type 0 = λ r. Ruled room before row (r next λ p. Ok l) in
        let p : Progress = progress_of before in
        let n : ℕ = length before + 1 in
        let o = decides_order before l in
        let r = decides_range before l in
        let t = decides_room room l in
        let c = decides_count before l in
        cond_both (in_order p l) _ (Err (LineOutOfOrder n)) P
        (λ eo. cond_both (in_range p l) _ (Err (FieldOutOfRange n)) P
        (λ er. cond_both (has_room room l) _ (Err (TablesTooShort n)) P
        (λ et. cond_both (in_count p l) (Ok (advanced p l)) (Err (ArcsMiscounted n)) P
        (λ ec. (s.0, record { ordered = o.0 eo; ranged = r.0 er; roomed = t.0 et; counted = c.0 ec }))
        (λ ec. (out_of_count (o.0 eo) (r.0 er) (t.0 et) (not_from_Decides _ c ec), refl)))
        (λ et. (out_of_room (o.0 eo) (r.0 er) (not_from_Decides _ t et), refl)))
        (λ er. (out_of_range (o.0 eo) (not_from_Decides _ r er), refl)))
        (λ eo. (out_of_order (not_from_Decides _ o eo), refl))

  ruling_as : (o : Option Line) → Spelled o row → Ruled room before row (ruled room before o)
  ruling_as None s = (out_of_form s, refl)
  ruling_as (Some l) s = judging l s

  pub ruling : Ruled room before row (ruled room before (scan row))
  ruling = ruling_as (scan row) (spells (scan row) row refl)

  pub ruled_keeps : (l : Line) → Written l row → Keeps room before l → ruled room before (scan row) ≡ Ok l
  ruled_keeps l w kept =
      rw (
        written_scan l row w,
        (decides_order before l).1 kept.ordered,
        (decides_range before l).1 kept.ranged,
        (decides_room room l).1 kept.roomed,
        (decides_count before l).1 kept.counted,
      )

  same_lowest : (j k : ℕ) → Lowest room before row j → Lowest room before row k → j ≡ k
  same_lowest j k p q =
      elim (cases_order j k) [
        | inl e ↦ e
        | inr (inl h) ↦ absurd (q.none_lower p.rule (omega arith) p.broken)
        | inr (inr h) ↦ absurd (p.none_lower q.rule (omega arith) q.broken)
      ]

  only_line : (l : Line) → Written l row → Spelled (Some l) row
  only_line l w = (w, λ k v. let p = written_scan k row v in let q = written_scan l row w in cc)

  lowest_as : (r : Result Line Refusal) → Ruled room before row r
      → (k : ℕ) → Lowest room before row k → RefusedAs r k (length before + 1)
  lowest_as (Ok l) (w, kept) k low = absurd (keeps_all l (only_line l w) kept k low)
  lowest_as (Err e) (p, q) k low = (e, refl, same_lowest (number e) k p low, q)

  pub ruled_lowest : (k : ℕ) → Lowest room before row k → RefusedAs (ruled room before (scan row)) k (length before + 1)
  ruled_lowest = lowest_as (ruled room before (scan row)) ruling
