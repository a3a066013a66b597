-- The bytes that tell a step.
--   way_word    a direction as a word
--   step_text   a step, by its direction and leg
use Rattle.std.specs.Prelude.{ℕ, List, ◌++◌, codes, decimal}
use Rattle.plans.specs.declared.direction.Direction.{Direction}
use Rattle.plans.specs.declared.direction.Direction.TheVariants.{Forth, Back}
use Rattle.steps.specs.declared.step.Step.{Step}

abbrev pub way_word : Direction → List ℕ
way_word Forth = codes "forth"
way_word Back = codes "back"

-- `forth over LEG` or `back over LEG`
abbrev pub step_text : Step → List ℕ
step_text s = way_word s.direction ++ (codes " over " ++ decimal s.leg)
