-- The bytes that tell a mark and a refusal.
--   mark_word       a mark as a word
--   refusal_words   a refusal, by its number and its place
use Rattle.std.specs.Prelude.{ℕ, List, ◌++◌, codes, decimal}
use Rattle.records.specs.declared.leg.Mark.{Mark}
use Rattle.records.specs.declared.leg.Mark.TheVariants.{Open, Shut}

abbrev pub mark_word : Mark → List ℕ
mark_word Open = codes "open"
mark_word Shut = codes "shut"

-- `refused NUMBER PLACE`, both base ten
abbrev pub refusal_words : ℕ → ℕ → List ℕ
refusal_words k at = codes "refused " ++ (decimal k ++ (codes " " ++ decimal at))
