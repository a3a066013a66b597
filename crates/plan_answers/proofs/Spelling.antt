-- The line of a leg is text.
--   ended      the byte that ends a line, at the end of a slice
--   spelled    a line that is written from its end on
--   leg_text   its bytes are those of a text
use Rattle.std.proofs.Common.{◌≡◌, ℕ, ◌+◌, ◌-◌, ◌^◌, ◌<◌, ◌≤◌, List, [], ◌∷◌, ◌++◌, length, drop, take, set, decimal, IsAscii, IsUtf8, arith, ap, ◌∙◌, take_all, length-drop, length-set}
use Rattle.std.proofs.lemmas.Fmt.{IsAscii-decimal}
use Rattle.std.proofs.lemmas.List.{drop-set, drop_all}
use Rattle.std.proofs.lemmas.Str.{IsAscii-append, IsUtf8-from_ascii}
use Rattle.std.proofs.lemmas.Str.Ascii.{IsAscii-cons, IsAscii-nil}

-- three numbers with a space before each, and the byte that ends a line
abbrev pub fields : ℕ → ℕ → ℕ → List ℕ
fields source target bikes = 32 ∷ (decimal source ++ 32 ∷ (decimal target ++ 32 ∷ (decimal bikes ++ 10 ∷ [])))

pub ended : (line : List ℕ) → length line ≡ 20 → drop 19 (set line 19 10) ≡ 10 ∷ []
ended line long = drop-set line 19 10 (omega arith) ∙ ap (λ rest. 10 ∷ rest) (drop_all 20 line (omega arith))

pub spelled : (line rest : List ℕ) (from : ℕ) → 1 ≤ from → length line ≡ 20 → from ≤ 20 → drop from line ≡ rest
    → take (20 - (from - 1)) (drop (from - 1) (set line (from - 1) 102)) ≡ 102 ∷ rest
spelled line rest from low long high h =
    let e : from - 1 + 1 ≡ from = omega arith in
    take_all _ (drop (from - 1) (set line (from - 1) 102)) (omega (arith, length-drop (from - 1) (set line (from - 1) 102), length-set line (from - 1) 102))
    ∙ drop-set line (from - 1) 102 (omega arith) ∙ rw (e, h)

space : (number : ℕ) (rest : List ℕ) → number < 2 ^ 64 → IsAscii rest → IsAscii (32 ∷ (decimal number ++ rest))
space number rest fits ascii = IsAscii-cons 32 (decimal number ++ rest) (omega arith) (IsAscii-append (decimal number) rest (IsAscii-decimal number fits) ascii)

pub leg_text : (source target bikes : ℕ) → source < 2 ^ 64 → target < 2 ^ 64 → bikes < 2 ^ 64 → IsUtf8 (102 ∷ fields source target bikes)
leg_text source target bikes s t b =
    let end : List ℕ = 10 ∷ [] in
    let last : List ℕ = 32 ∷ (decimal bikes ++ end) in
    let later : List ℕ = 32 ∷ (decimal target ++ last) in
    let ascii = space source later s (space target last t (space bikes end b (IsAscii-cons 10 [] (omega arith) IsAscii-nil))) in
    IsUtf8-from_ascii (102 ∷ fields source target bikes) (IsAscii-cons 102 (fields source target bikes) (omega arith) ascii)
