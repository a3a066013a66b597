-- What the rules settle: the tally after a call, and what two answers to it have in common.
use Rattle.std.proofs.Common.{◌≡◌, ℕ, Some, sym, refl, ap, ◌∙◌, inl, inr, arith}
use Rattle.records.specs.declared.refusal.Refusal.{Refusal}
use Rattle.plans.specs.Plans.{cents, difference}
use Rattle.tally.specs.Tallies.{Tally, with_plan}
use Rattle.tally.specs.Answers.{number_of}
use Rattle.tally.specs.Follows.{Papers, fault, PlanAnswers, Accepts, Follows}
use Rattle.tally.specs.Model.{fed, moved, moved_unless, next}
use Rattle.tally.specs.Laws.{Agree}
use Rattle.tally.specs.declared.answer.Answer.{Answer}
use Rattle.tally.specs.declared.answer.Answer.TheVariants.{Refused, Planned}
use Rattle.tally.specs.declared.call.Call.{Call}
use Rattle.tally.specs.declared.call.Call.TheVariants.{Report, Close, Reopen, Plan, ListStations, ListRuns, Read}
use Rattle.tally.proofs.Meeting.{met}
use Rattle.tally.proofs.Faults.{fault_meets}
use Rattle.tally.proofs.Naming.{IsBoards, same_refused}

moved_is : (t : Tally) (call : Call) (answer : Answer) (p p' : Papers) (t' : Tally) → Accepts t call answer p p' t' → t' ≡ moved t call (fed answer t'.plan)
moved_is t (Report s b) answer p p' t' a = a.2
moved_is t (Close k) answer p p' t' a = a.2
moved_is t (Reopen k) answer p p' t' a = a.2
moved_is t (Plan l) (Planned k d) p p' t' a = a.1
moved_is t (Plan l) (Refused e) p p' t' a = a.2
moved_is t (Plan l) _ p p' t' a = absurd a
moved_is t (ListStations n) answer p p' t' a = a.2
moved_is t (ListRuns n) answer p p' t' a = a.2
moved_is t (Read k) answer p p' t' a = a.2

pub computed : (t : Tally) (call : Call) (answer : Answer) (p p' : Papers) (t' : Tally) → Follows t call answer p p' t' → t' ≡ next t call (fed answer t'.plan)
computed t call answer p p' t' F =
    met t call F (λ f e r. r.2 ∙ ap (λ o. moved_unless o t call (fed answer t'.plan)) (sym e))
    (λ e a. moved_is t call answer p p' t' a ∙ ap (λ o. moved_unless o t call (fed answer t'.plan)) (sym e))

same : {x y z : Answer} {t u v : Tally} → x ≡ z → y ≡ z → t ≡ v → u ≡ v → Agree x y t u
same p q r s = record { same_number = ap number_of (p ∙ sym q); same_tally = λ _. r ∙ sym s; same_answer = λ _. inr (p ∙ sym q) }

both_planned : (t : Tally) (c d k e : ℕ) (p p₁ p₂ : Papers) (t₁ t₂ : Tally) → PlanAnswers t (Planned c d) p p₁ t₁ → PlanAnswers t (Planned k e) p p₂ t₂ → Agree (Planned c d) (Planned k e) t₁ t₂
both_planned t c d k e p p₁ p₂ t₁ t₂ a b = record {
  same_number = refl;
  same_tally = λ h. a.1 ∙ (ap (with_plan t) h ∙ sym b.1);
  same_answer = λ h.
      let x : c ≡ k = a.0.costs ∙ (ap (cents t.meaning) h ∙ sym b.0.costs) in
      let y : d ≡ e = a.0.differs ∙ (ap (difference t.meaning t.plan) h ∙ sym b.0.differs) in
      inr (cc);
}

both_refused : (t : Tally) (x y : Refusal) (p p₁ p₂ : Papers) (t₁ t₂ : Tally) → PlanAnswers t (Refused x) p p₁ t₁ → PlanAnswers t (Refused y) p p₂ t₂ → Agree (Refused x) (Refused y) t₁ t₂
both_refused t x y p p₁ p₂ t₁ t₂ a b = record {
  same_number = ap (λ k. Some k) (a.0 ∙ sym b.0);
  same_tally = λ _. a.2 ∙ sym b.2;
  same_answer = λ _. inl (ap (λ k. Some k) a.0);
}

plans_agree : (t : Tally) (x y : Answer) (p p₁ p₂ : Papers) (t₁ t₂ : Tally) → PlanAnswers t x p p₁ t₁ → PlanAnswers t y p p₂ t₂ → Agree x y t₁ t₂
plans_agree t (Planned c d) (Planned k e) p p₁ p₂ t₁ t₂ a b = both_planned t c d k e p p₁ p₂ t₁ t₂ a b
plans_agree t (Planned c d) (Refused e) p p₁ p₂ t₁ t₂ a b = absurd (b.1.none_obeys t₁.plan a.0.best.obeys)
plans_agree t (Refused e) (Planned c d) p p₁ p₂ t₁ t₂ a b = absurd (a.1.none_obeys t₂.plan b.0.best.obeys)
plans_agree t (Refused x) (Refused y) p p₁ p₂ t₁ t₂ a b = both_refused t x y p p₁ p₂ t₁ t₂ a b
plans_agree t (Planned c d) _ p p₁ p₂ t₁ t₂ a b = absurd b
plans_agree t (Refused e) _ p p₁ p₂ t₁ t₂ a b = absurd b
plans_agree t _ y p p₁ p₂ t₁ t₂ a b = absurd a

accepts_agree : (t : Tally) (call : Call) (x y : Answer) (p p₁ p₂ : Papers) (t₁ t₂ : Tally) → Accepts t call x p p₁ t₁ → Accepts t call y p p₂ t₂ → Agree x y t₁ t₂
accepts_agree t (Report s v) x y p p₁ p₂ t₁ t₂ a b = same a.0 b.0 a.2 b.2
accepts_agree t (Close k) x y p p₁ p₂ t₁ t₂ a b = same a.0 b.0 a.2 b.2
accepts_agree t (Reopen k) x y p p₁ p₂ t₁ t₂ a b = same a.0 b.0 a.2 b.2
accepts_agree t (Plan l) x y p p₁ p₂ t₁ t₂ a b = plans_agree t x y p p₁ p₂ t₁ t₂ a b
accepts_agree t (ListStations n) x y p p₁ p₂ t₁ t₂ a b = same a.0 b.0 a.2 b.2
accepts_agree t (ListRuns n) x y p p₁ p₂ t₁ t₂ a b = same a.0 b.0 a.2 b.2
accepts_agree t (Read k) x y p p₁ p₂ t₁ t₂ a b = same a.0 b.0 a.2 b.2

boards : (t : Tally) (call : Call) (f : ℕ × ℕ) → fault t call ≡ Some f → IsBoards f
boards t call f e = let m = fault_meets t call f e in (m.0, omega (arith, m.1))

pub agreed : (t : Tally) (call : Call) (x y : Answer) (p p₁ p₂ : Papers) (t₁ t₂ : Tally) → Follows t call x p p₁ t₁ → Follows t call y p p₂ t₂ → Agree x y t₁ t₂
agreed t call x y p p₁ p₂ t₁ t₂ F G =
    met t call F (λ f e a. let b = G.refused f e in same (same_refused x y f (boards t call f e) a.0 b.0) refl a.2 b.2) (λ e a. accepts_agree t call x y p p₁ p₂ t₁ t₂ a (G.accepted e))
