-- A refusal that a board can answer is known by its number and place.
use Rattle.std.proofs.Common.{◌≡◌, ℕ, ◌≤◌, cond, eqb, Some, None, Option, sym, refl, ap, ◌∙◌, subst, arith}
use Rattle.std.proofs.lemmas.Option.{none-some}
use Rattle.records.specs.Refusals.{number, place}
use Rattle.records.specs.declared.refusal.Refusal.{Refusal}
use Rattle.records.specs.declared.refusal.Refusal.TheVariants.{StationNotOpen, BalanceOutOfRange, NotARoadLeg, MarkUnchanged, SliceTooShort, SenselessLeg, BalanceTooLarge, UnevenBalances, NoPlanObeys}
use Rattle.tally.specs.Answers.{refusal_of}
use Rattle.tally.specs.declared.answer.Answer.{Answer}
use Rattle.tally.specs.declared.answer.Answer.TheVariants.{Done, Refused}

-- from 7 to 15
abbrev pub IsBoards : ℕ × ℕ → Type 0
IsBoards f = (7 ≤ f.0) × (f.0 ≤ 15)

abbrev by_name : ℕ → ℕ → Refusal
by_name k p =
    cond (eqb k 7) (StationNotOpen p) (cond (eqb k 8) (BalanceOutOfRange p) (cond (eqb k 9) (NotARoadLeg p) (cond (eqb k 10) (MarkUnchanged p)
    (cond (eqb k 11) SliceTooShort (cond (eqb k 12) (SenselessLeg p) (cond (eqb k 13) (BalanceTooLarge p)
    (cond (eqb k 14) UnevenBalances (NoPlanObeys p))))))))

named : (e : Refusal) → IsBoards (number e, place e) → by_name (number e) (place e) ≡ e
named (StationNotOpen station) m = refl
named (BalanceOutOfRange station) m = refl
named (NotARoadLeg leg) m = refl
named (MarkUnchanged leg) m = refl
named SliceTooShort m = refl
named (SenselessLeg leg) m = refl
named (BalanceTooLarge station) m = refl
named UnevenBalances m = refl
named (NoPlanObeys cut) m = refl
named _ m = absurd (omega (arith, m.0, m.1))

abbrev answer_by : Option (ℕ × ℕ) → Answer
answer_by None = Done
answer_by (Some f) = Refused (by_name f.0 f.1)

some_same : (f g : ℕ × ℕ) → ◌≡◌ {A = Option (ℕ × ℕ)} (Some f) (Some g) → f ≡ g
some_same f g e = cc

refused_is : (x : Answer) (f : ℕ × ℕ) → IsBoards f → refusal_of x ≡ Some f → x ≡ answer_by (Some f)
refused_is (Refused r) f m e =
    let same : (number r, place r) ≡ f = some_same _ _ e in
    ap (λ s. Refused s) (sym (named r (subst IsBoards (sym same) m))) ∙ ap answer_by e
refused_is _ f m e = absurd (none-some f e)

-- two answers that tell the same refusal of a board are the same
pub same_refused : (x y : Answer) (f : ℕ × ℕ) → IsBoards f → refusal_of x ≡ Some f → refusal_of y ≡ Some f → x ≡ y
same_refused x y f m p q = refused_is x f m p ∙ sym (refused_is y f m q)
