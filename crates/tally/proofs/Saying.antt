-- What an answer of each kind says of the call.
use Rattle.std.proofs.Common.{◌≡◌, ℕ, ◌<◌, List, Some, None, Option, sym, refl, ap, ◌∙◌, subst, arith}
use Rattle.std.proofs.lemmas.Option.{none-some}
use Rattle.records.specs.Refusals.{number}
use Rattle.records.specs.declared.refusal.Refusal.{Refusal}
use Rattle.planning_rules.specs.declared.lengths.Lengths.{Lengths}
use Rattle.plans.specs.Plans.{Obeys}
use Rattle.tally.specs.Tallies.{Tally}
use Rattle.tally.specs.Answers.{refusal_of}
use Rattle.tally.specs.Follows.{Papers, fault, PlanAnswers, Accepts, Follows}
use Rattle.tally.specs.declared.answer.Answer.{Answer}
use Rattle.tally.specs.declared.answer.Answer.TheVariants.{Refused, Planned, Listed}
use Rattle.tally.specs.declared.call.Call.{Call}
use Rattle.tally.specs.declared.call.Call.TheVariants.{Report, Close, Reopen, Plan, ListStations, ListRuns, Read}
use Rattle.tally.proofs.Faults.{fault_meets}
use Rattle.tally.proofs.Meeting.{met}

-- each kind of call has answers of its own
planned_accepts : (t : Tally) (call : Call) (x : Answer) (c d : ℕ) (p p' : Papers) (t' : Tally) → x ≡ Planned c d → Accepts t call x p p' t' → PlanAnswers t (Planned c d) p p' t'
planned_accepts t (Report s b) x c d p p' t' e a = let h = a.0 in cc
planned_accepts t (Close k) x c d p p' t' e a = let h = a.0 in cc
planned_accepts t (Reopen k) x c d p p' t' e a = let h = a.0 in cc
planned_accepts t (Plan l) x c d p p' t' e a = subst (λ (y : Answer). PlanAnswers t y p p' t') e a
planned_accepts t (ListStations n) x c d p p' t' e a = let h = a.0 in cc
planned_accepts t (ListRuns n) x c d p p' t' e a = let h = a.0 in cc
planned_accepts t (Read k) x c d p p' t' e a = let h = a.0 in cc

-- cents and difference are a planning's answer
pub planned_says : (t : Tally) (call : Call) (x : Answer) (c d : ℕ) (p p' : Papers) (t' : Tally) → x ≡ Planned c d → Follows t call x p p' t' → PlanAnswers t (Planned c d) p p' t'
planned_says t call x c d p p' t' e F =
    met t call F (λ f h r. absurd (none-some f (sym (ap refusal_of e) ∙ r.0))) (λ h a. planned_accepts t call x c d p p' t' e a)

refused_accepts : (t : Tally) (call : Call) (x : Answer) (r : Refusal) (p p' : Papers) (t' : Tally) → x ≡ Refused r → Accepts t call x p p' t' → PlanAnswers t (Refused r) p p' t'
refused_accepts t (Report s b) x r p p' t' e a = let h = a.0 in cc
refused_accepts t (Close k) x r p p' t' e a = let h = a.0 in cc
refused_accepts t (Reopen k) x r p p' t' e a = let h = a.0 in cc
refused_accepts t (Plan l) x r p p' t' e a = subst (λ (y : Answer). PlanAnswers t y p p' t') e a
refused_accepts t (ListStations n) x r p p' t' e a = let h = a.0 in cc
refused_accepts t (ListRuns n) x r p p' t' e a = let h = a.0 in cc
refused_accepts t (Read k) x r p p' t' e a = let h = a.0 in cc

-- a refused call alters nothing
pub unaltered : (t : Tally) (call : Call) (x : Answer) (r : Refusal) (p p' : Papers) (t' : Tally) → x ≡ Refused r → Follows t call x p p' t' → t' ≡ t
unaltered t call x r p p' t' e F = met t call F (λ f h s. s.2) (λ h a. (refused_accepts t call x r p p' t' e a).2)

-- a planning that meets no fault is accepted where a plan obeys
found : (t : Tally) (x : Answer) (p p' : Papers) (t' : Tally) (plan : List ℕ) → Obeys t.meaning plan → PlanAnswers t x p p' t' → refusal_of x ≡ None
found t (Planned c d) p p' t' plan o a = refl
found t (Refused e) p p' t' plan o a = absurd (a.1.none_obeys plan o)
found t _ p p' t' plan o a = refl

pub plan_found : (t : Tally) (call : Call) (x : Answer) (p p' : Papers) (t' : Tally) (l : Lengths) (plan : List ℕ) → call ≡ Plan l → fault t call ≡ None → Obeys t.meaning plan → Follows t call x p p' t' → refusal_of x ≡ None
plan_found t call x p p' t' l plan e h o F = found t x p p' t' plan o (subst (λ (k : Call). Accepts t k x p p' t') e (F.accepted h))

-- a list was handed out by a call that met no fault
pub listed_none : (t : Tally) (call : Call) (x : Answer) (k : ℕ) (p p' : Papers) (t' : Tally) → x ≡ Listed k → Follows t call x p p' t' → fault t call ≡ None
listed_none t call x k p p' t' e F = met t call F (λ f h r. absurd (none-some f (sym (ap refusal_of e) ∙ r.0))) (λ h a. h)

abbrev number_in : Option (ℕ × ℕ) → ℕ
number_in None = 0
number_in (Some f) = f.0

-- refusal 15 is a planning's answer
pub refused_says : (t : Tally) (call : Call) (x : Answer) (r : Refusal) (p p' : Papers) (t' : Tally) → x ≡ Refused r → number r ≡ 15 → Follows t call x p p' t' → PlanAnswers t (Refused r) p p' t'
refused_says t call x r p p' t' e n F =
    met t call F
    (λ f h s.
    let low : f.0 < 15 = omega (arith, (fault_meets t call f h).1) in
    let q : number r ≡ f.0 = ap number_in (sym (ap refusal_of e) ∙ s.0) in
    absurd (omega (arith, low, q, n)))
    (λ h a. refused_accepts t call x r p p' t' e a)
