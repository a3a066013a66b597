-- What a table leaves alone in the memory that it was lent.
--   unmarked   leg records but for their marks
--   kept_six   to keep what six functions give
use Rattle.std.specs.Prelude.{◌≡◌, refl, List, map}
use Rattle.std.proofs.Common.{◌∙◌}
use Rattle.records.specs.declared.leg.Leg.{Leg}
use Rattle.records.specs.declared.leg.Mark.TheVariants.{Open}
use Rattle.network.specs.Keeping.{Keeps}
use Rattle.network.specs.Offices.{with_mark}

-- as if all were open
abbrev pub unmarked : List Leg → List Leg
unmarked legs = map (with_mark Open) legs

-- six values that stay equal
pub kept_six : {S U V W X Y Z : Type 0} (e : S → U) (f : S → V) (g : S → W) (h : S → X) (i : S → Y) (j : S → Z)
    → Keeps (λ (s t : S). (e t ≡ e s) × (f t ≡ f s) × (g t ≡ g s) × (h t ≡ h s) × (i t ≡ i s) × (j t ≡ j s))
kept_six e f g h i j = record {
  same = λ s. (refl, refl, refl, refl, refl, refl);
  more = λ s t u p q. (q.0 ∙ p.0, q.1 ∙ p.1, q.2 ∙ p.2, q.3 ∙ p.3, q.4 ∙ p.4, q.5 ∙ p.5);
}
