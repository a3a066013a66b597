-- The bytes that tell how a search ended, and how a walk arrives.
--   outcome_words   an outcome in words
--   last_text       the last step of a walk, if it has gone any
--   arrival_text    an arrival, by the bytes of its total
use Rattle.std.specs.Prelude.{ℕ, List, ◌++◌, Some, None, Option, codes}
use Rattle.steps.specs.declared.step.Step.{Step}
use Rattle.steps.specs.Texts.{step_text}
use Rattle.search.specs.declared.outcome.Outcome.{Outcome}
use Rattle.search.specs.declared.outcome.Outcome.TheVariants.{Settled, RoundTrip}

abbrev pub outcome_words : Outcome → List ℕ
outcome_words Settled = codes "settled"
outcome_words RoundTrip = codes "a round trip below zero"

abbrev pub last_text : Option Step → List ℕ
last_text None = codes "start"
last_text (Some s) = step_text s

-- `TOTAL, start` or `TOTAL, STEP`; where the bytes of the total are not stated, these are not either
abbrev pub arrival_text : Option (List ℕ) → Option Step → Option (List ℕ)
arrival_text None last = None
arrival_text (Some total) last = Some (total ++ (codes ", " ++ last_text last))
