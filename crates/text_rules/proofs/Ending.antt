-- What the end of the rows comes to: it is taken exactly where the lines are complete.
--   ended_complete   complete lines are the answer
--   ended_early      lines that are not complete are refused at the last of them
--   Ended, ending    one of the two happens
use Rattle.std.proofs.Common.{◌≡◌, eqb, List, [], length, is_some, Some, None, Ok, Err, Option, Result, sym, refl, ap, ◌∙◌}
use Rattle.std.proofs.lemmas.Bool.{false≢true, eqb-true, eqb-false, cond_both}
use Rattle.records.specs.Refusals.{number, place}
use Rattle.records.specs.declared.refusal.Refusal.{Refusal}
use Rattle.records.specs.declared.refusal.Refusal.TheVariants.{ArcsMiscounted}
use Rattle.lines.specs.declared.line.Line.{Line}
use Rattle.text_rules.specs.Judging.{finished, finished_by}
use Rattle.text_rules.specs.Reading.{progress_of, run, ◌next◌, RefusedAs}
use Rattle.text_rules.specs.Rules.{problem_in, arcs_of, arc_lines}
use Rattle.text_rules.specs.Stated.{Complete}
use Rattle.text_rules.specs.declared.progress.Header.{Header}
use Rattle.text_rules.specs.declared.progress.Room.{Room}
use Rattle.text_rules.proofs.Deciding.{header_is, arcs_is}

abbrev pub Ended : List Line → Result Header Refusal → Type 0
Ended lines (Ok sizes) = Complete lines
Ended lines (Err e) = (Complete lines → ⊥) × (number e ≡ 6) × (place e ≡ length lines)

ending_as : (lines : List Line) (o : Option Header) → problem_in lines ≡ o
    → Ended lines (finished_by o (arc_lines lines) (length lines))
ending_as lines None e = (λ c. false≢true (sym (ap is_some e) ∙ c.0), refl, refl)
ending_as lines (Some h) e =
    cond_both (eqb (arc_lines lines) h.arcs) (Ok h) (Err (ArcsMiscounted (length lines))) (Ended lines)
    (λ t. (ap is_some e, eqb-true _ _ t ∙ sym (ap arcs_of e)))
    (λ t. (λ c. eqb-false _ _ t (c.1 ∙ ap arcs_of e), refl, refl))

pub ending : (lines : List Line) → Ended lines (finished (progress_of lines) (length lines))
ending lines = rw (header_is lines, arcs_is lines) (ending_as lines (problem_in lines) refl)

complete_as : (lines : List Line) (r : Result Header Refusal) → Ended lines r → Complete lines → (r next λ sizes. Ok lines) ≡ Ok lines
complete_as lines (Ok sizes) h c = refl
complete_as lines (Err e) h c = absurd (h.0 c)

pub ended_complete : (room : Room) (lines : List Line) → Complete lines → run room lines [] ≡ Ok lines
ended_complete room lines = complete_as lines (finished (progress_of lines) (length lines)) (ending lines)

early_as : (lines : List Line) (r : Result Header Refusal) → Ended lines r → (Complete lines → ⊥)
    → RefusedAs {X = List Line} (r next λ sizes. Ok lines) 6 (length lines)
early_as lines (Ok sizes) h c = absurd (c h)
early_as lines (Err e) h c = (e, refl, h.1, h.2)

pub ended_early : (room : Room) (lines : List Line) → (Complete lines → ⊥) → RefusedAs (run room lines []) 6 (length lines)
ended_early room lines = early_as lines (finished (progress_of lines) (length lines)) (ending lines)
