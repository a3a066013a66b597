-- What is known of a line that was judged and taken.
use Rattle.std.proofs.Common.{◌≡◌, ℕ, Bool, true, false, cond, Ok, Err, refl}
use Rattle.lines.specs.declared.line.Line.{Line}
use Rattle.text_rules.specs.Judging.{in_order, in_range, has_room, in_count, advanced, judged}
use Rattle.text_rules.specs.declared.progress.Progress.{Progress}
use Rattle.text_rules.specs.declared.progress.Room.{Room}

-- a line that passed the four tests
pub record Passed (room : Room) (p : Progress) (l : Line) (q : Progress) : Type 0 where
  pub ordered : in_order p l ≡ true
  pub ranged : in_range p l ≡ true
  pub roomy : has_room room l ≡ true
  pub counted : in_count p l ≡ true
  pub after : q ≡ advanced p l

four : {X E P : Type 0} (a b c d : Bool) (x q : X) (e f g h : E)
    → cond a (cond b (cond c (cond d (Ok x) (Err h)) (Err g)) (Err f)) (Err e) ≡ Ok q
    → (a ≡ true → b ≡ true → c ≡ true → d ≡ true → q ≡ x → P) → P
four true true true true x q e f g h is k = k refl refl refl refl (cc)
four true true true false x q e f g h is k = cc
four true true false d x q e f g h is k = cc
four true false c d x q e f g h is k = cc
four false b c d x q e f g h is k = cc

pub passed : (room : Room) (p : Progress) (n : ℕ) (l : Line) (q : Progress) → judged room p n l ≡ Ok q → Passed room p l q
passed room p n l q is =
    four (in_order p l) (in_range p l) (has_room room l) (in_count p l) (advanced p l) q _ _ _ _ is
    (λ a b c d e. record { ordered = a; ranged = b; roomy = c; counted = d; after = e })
