-- A call that meets no fault, and one that meets one.
use Rattle.std.proofs.Common.{◌≡◌, ℕ, Some, None, Option, sym, refl, ◌∙◌}
use Rattle.std.proofs.lemmas.Option.{none-some}
use Rattle.records.specs.Refusals.{number, place}
use Rattle.records.specs.declared.refusal.Refusal.{Refusal}
use Rattle.tally.specs.Tallies.{Tally}
use Rattle.tally.specs.Answers.{refusal_of}
use Rattle.tally.specs.Follows.{Papers, fault, Accepts, Follows}
use Rattle.tally.specs.declared.answer.Answer.{Answer}
use Rattle.tally.specs.declared.answer.Answer.TheVariants.{Refused}
use Rattle.tally.specs.declared.call.Call.{Call}

pub when_accepted : (t : Tally) (call : Call) (x : Answer) (p p' : Papers) (t' : Tally) → fault t call ≡ None → Accepts t call x p p' t' → Follows t call x p p' t'
when_accepted t call x p p' t' e a = record { refused = λ f h. absurd (none-some f (sym e ∙ h)); accepted = λ _. a }

pub when_refused : (t : Tally) (call : Call) (e : Refusal) (p p' : Papers) (t' : Tally) → fault t call ≡ Some (number e, place e) → p' ≡ p → t' ≡ t → Follows t call (Refused e) p p' t'
when_refused t call e p p' t' q u v = record { refused = λ f h. (sym q ∙ h, u, v); accepted = λ h. absurd (none-some (number e, place e) (sym h ∙ q)) }

-- what follows where the call is refused, and where it is accepted, follows
pub met : {P : Type 0} (t : Tally) (call : Call) {x : Answer} {p p' : Papers} {t' : Tally} → Follows t call x p p' t'
    → ((f : ℕ × ℕ) → fault t call ≡ Some f → (refusal_of x ≡ Some f) × (p' ≡ p) × (t' ≡ t) → P) → (fault t call ≡ None → Accepts t call x p p' t' → P) → P
met {P} t call F r a = go (fault t call) refl
  where
    go : (o : Option (ℕ × ℕ)) → fault t call ≡ o → P
    go (Some f) e = r f e (F.refused f e)
    go None e = a e (F.accepted e)
