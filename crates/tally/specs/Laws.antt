-- What the rules settle.
--   Computed     the tally after a call is the one that is computed
--   Agree        two answers to the same call on the same tally, with the tallies after them
--   Determined   any two agree
--   StaySound    what holds of a new tally and is kept by every call
use Rattle.std.specs.Prelude.{◌≡◌, ℕ, ◌⊎◌, length, Some}
use Rattle.network.specs.Nets.{Net}
use Rattle.tally.specs.Tallies.{Tally, fresh}
use Rattle.tally.specs.Answers.{number_of}
use Rattle.tally.specs.Follows.{Papers, Follows}
use Rattle.tally.specs.Model.{fed, next}
use Rattle.tally.specs.Runs.{Sound}
use Rattle.tally.specs.declared.answer.Answer.{Answer}
use Rattle.tally.specs.declared.call.Call.{Call}

abbrev pub Computed : Type 0
Computed = (t : Tally) (call : Call) (answer : Answer) (p p' : Papers) (t' : Tally) → Follows t call answer p p' t' → t' ≡ next t call (fed answer t'.plan)

-- refused by the same number, or both accepted; where the plans are the same, so are the tallies and, unless the number is 15,
-- the answers
pub record Agree (x y : Answer) (t u : Tally) : Type 0 where
  pub same_number : number_of x ≡ number_of y
  pub same_tally : t.plan ≡ u.plan → t ≡ u
  pub same_answer : t.plan ≡ u.plan → (number_of x ≡ Some 15) ⊎ (x ≡ y)

abbrev pub Determined : Type 0
Determined = (t : Tally) (call : Call) (x y : Answer) (p p₁ p₂ : Papers) (t₁ t₂ : Tally) → Follows t call x p p₁ t₁ → Follows t call y p p₂ t₂ → Agree x y t₁ t₂

-- a new tally is sound, and so is every tally after a call on a sound one
pub record StaySound : Type 0 where
  pub begins : (net : Net) → Sound (length net.legs) (fresh net)
  pub stays : (m : ℕ) (t : Tally) (call : Call) (answer : Answer) (p p' : Papers) (t' : Tally) → Sound m t → Follows t call answer p p' t' → Sound m t'
