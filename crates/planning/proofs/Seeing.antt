-- Sums of two numbers that are looked for.
use Rattle.std.proofs.Common.{◌≡◌, Bool, true, false, ℤ, ◌+ℤ◌, Some, None, Option, Decides, sym, refl, ap, ◌∙◌, subst, w64, SFits, to_z, of_z}
use Rattle.std.specs.Option.{SomeIff, option_eq}
use Rattle.std.specs.Ordering.{int_eq}
use Rattle.std.proofs.lemmas.Bool.Decides.{Decides-int_eq}
use Rattle.std.proofs.lemmas.Int.{to_z-of_z}
use Rattle.std.proofs.lemmas.Bool.{both_ways}
use Rattle.theory.specs.Groups.{two}

summed : (o : Option ℤ) (t s : ℤ) → SFits w64 t → SomeIff o (SFits w64 s) s → Decides (option_eq int_eq o (Some t)) (t ≡ s)
summed None t s f h = (λ e. absurd (both_ways false refl e), λ e. absurd (h (subst (SFits w64) e f)))
summed (Some x) t s f h = (λ e. sym ((Decides-int_eq x t).0 e) ∙ h.1, λ e. (Decides-int_eq x t).1 (h.1 ∙ sym e))

-- numbers of 64 bits with sign are what their bits say
pub shown_sum : (r : Bool) (o : Option ℤ) (t a b : ℤ) → SFits w64 t → SFits w64 a → SFits w64 b → SomeIff o (SFits w64 (to_z w64 (of_z w64 a) +ℤ to_z w64 (of_z w64 b))) (to_z w64 (of_z w64 a) +ℤ to_z w64 (of_z w64 b))
    → r ≡ option_eq int_eq o (Some (to_z w64 (of_z w64 t))) → Decides r (t ≡ a +ℤ b)
shown_sum r o t a b f g h s e =
    let k : SomeIff o (SFits w64 (a +ℤ b)) (a +ℤ b) = subst (λ z. SomeIff o (SFits w64 (z +ℤ b)) (z +ℤ b)) (to_z-of_z w64 a g) (subst (λ z. SomeIff o (SFits w64 (to_z w64 (of_z w64 a) +ℤ z)) (to_z w64 (of_z w64 a) +ℤ z)) (to_z-of_z w64 b h) s) in
    subst (λ q. Decides q (t ≡ a +ℤ b)) (sym (e ∙ ap (λ z. option_eq int_eq o (Some z)) (to_z-of_z w64 t f))) (summed o t (a +ℤ b) f k)

pub shown_sums : (q r : Bool) (x y : ℤ × ℤ) → Decides q (x.0 ≡ y.0) → q ≡ true → Decides r (x.1 ≡ y.1) → Decides r (x ≡ y)
shown_sums q r x y d e h = (λ k. two (d.0 e) (h.0 k), λ k. h.1 (ap (λ p. p.1) k))
