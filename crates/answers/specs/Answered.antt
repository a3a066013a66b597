-- What a program prints for a text, by what it prints for a network.
--   whole_room     room for the largest network
--   refusal_line   the line that tells a refusal
--   PrintsRead     what reading a text came to, and the bytes that are printed for it
--   Prints         a text and the bytes that are printed for it
use Rattle.std.specs.Prelude.{◌≡◌, ℕ, List, [], ◌∷◌, ◌++◌, Ok, Err, codes, Result}
use Rattle.records.specs.Refusals.{number, place}
use Rattle.records.specs.Words.{refusal_words}
use Rattle.records.specs.declared.refusal.Refusal.{Refusal}
use Rattle.lines.specs.declared.line.Line.{Line}
use Rattle.text_rules.specs.Stated.{StatedNetwork, States, Refused, network_of}
use Rattle.text_rules.specs.declared.progress.Room.{Room}

-- 240 stations and 3,000 legs
abbrev pub whole_room : Room
whole_room = record { stations = 240; legs = 3000 }

-- `c refused NUMBER PLACE`
abbrev pub refusal_line : ℕ → ℕ → List ℕ
refusal_line k at = codes "c " ++ (refusal_words k at ++ (10 ∷ []))

-- by what may be printed for a network that a text states
abbrev pub PrintsRead : (StatedNetwork → List ℕ → Type 0) → Result (List Line) Refusal → List ℕ → Type 0
PrintsRead P (Ok lines) bytes = P (network_of lines) bytes
PrintsRead P (Err e) bytes = bytes ≡ refusal_line (number e) (place e)

-- by what the text states, and by how it is refused
pub record Prints (P : StatedNetwork → List ℕ → Type 0) (text bytes : List ℕ) : Type 0 where
  pub of_network : (net : StatedNetwork) → States text net → P net bytes
  pub of_refusal : (k at : ℕ) → Refused text whole_room k at → bytes ≡ refusal_line k at
