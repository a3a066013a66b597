-- Numbers and words in texts.
use Rattle.std.proofs.Common.{◌≡◌, ◌≢◌, ℕ, zero, suc, ◌<◌, ◌^◌, Bool, false, ◌||◌, nat_lt, ◌==◌, List, [], ◌∷◌, ◌++◌, length, get_or, ℤ, pos, negsuc, Option, FitsSigned, w32, refl, sym, ap, ◌∙◌, subst, append_assoc, codes, arith, lit<}
use lib.Signed.{mag}
use Rattle.std.specs.Borrow.{Bor}
use Rattle.std.specs.Fmt.{decimal, signed_decimal}
use Rattle.std.specs.Option.{MatchOption}
use Rattle.std.specs.Str.{IsAscii, IsUtf8}
use Rattle.std.specs.Str.Parse.{AllDigits, digits_value}
use Rattle.std.proofs.lemmas.Bool.{or_parts, eqb-false, ltb-false}
use Rattle.std.proofs.lemmas.Fmt.{digits_decimal, IsAscii-decimal, IsAscii-signed}
use Rattle.std.proofs.lemmas.Str.{IsUtf8-from_ascii, IsAscii-append}
use Rattle.std.proofs.lemmas.Str.Ascii.{IsAscii-cons, IsAscii-nil}
use Rattle.std.proofs.lemmas.Str.Parse.{IsNumeralModel, numerals_by_value, tells_digits, not_in_digits}
use Rattle.std.proofs.lemmas.Str.Pattern.{split_after, IsSplitOnceResult}
use Rattle.tally.specs.Texts.{call_text}
use Rattle.tally.specs.declared.call.Call.{Call}
use Rattle.tally.specs.declared.call.Call.TheVariants.{Report, Close, Reopen, Plan, ListStations, ListRuns, Read}
use Rattle.call_lines.specs.Calls.{InTypes, word_of, numbers_of}

own : IsNumeralModel (AllDigits 10) (digits_value 10)
own = numerals_by_value _ tells_digits

no_space : (n : ℕ) → n < 2 ^ 64 → (i : ℕ) → i < length (decimal n) → get_or (decimal n) i 0 ≢ 32
no_space n h = not_in_digits own (decimal n) 32 (digits_decimal own n h) (λ r. let no : ⊥ = omega (arith, r.0) in no)

-- a text that begins with a number and a space is parted there
pub split_number : (n : ℕ) (text rest : List ℕ) (r : Option (Bor (List ℕ) × Bor (List ℕ))) → IsSplitOnceResult 32 text r → n < 2 ^ 64
    → text ≡ decimal n ++ (32 ∷ rest) → MatchOption r ⊥ (λ x. (x.0.now ≡ decimal n) × (x.1.now ≡ rest))
split_number n text rest r h small e = split_after 32 text (decimal n) rest r h (lit< tt) e (no_space n small)

pub small_mag : (z : ℤ) → FitsSigned w32 z → mag z < 2 ^ 63
small_mag (pos n) h = omega (arith, h)
small_mag (negsuc n) h = omega (arith, h)

abbrev has_space : List ℕ → Bool
has_space [] = false
has_space (b ∷ s) = (b == 32) || has_space s

without : (xs : List ℕ) → has_space xs ≡ false → (i : ℕ) → i < length xs → get_or xs i 0 ≢ 32
without [] e i h = let no : ⊥ = omega (arith, h) in absurd no
without (b ∷ s) e zero h = eqb-false b 32 (or_parts (b == 32) (has_space s) e).0
without (b ∷ s) e (suc i) h = without s (or_parts (b == 32) (has_space s) e).1 i (omega (arith, h))

one_word : (call : Call) → has_space (word_of call) ≡ false
one_word (Report s b) = refl
one_word (Close k) = refl
one_word (Reopen k) = refl
one_word (Plan l) = refl
one_word (ListStations n) = refl
one_word (ListRuns n) = refl
one_word (Read k) = refl

text_parts : (call : Call) → call_text call ≡ word_of call ++ (32 ∷ numbers_of call)
text_parts (Report s b) = ap (λ t. codes "report " ++ t) (append_assoc (decimal s) (32 ∷ []) (signed_decimal b))
text_parts (Close k) = refl
text_parts (Reopen k) = refl
text_parts (Plan l) = simp append_assoc refl
text_parts (ListStations n) = refl
text_parts (ListRuns n) = refl
text_parts (Read k) = refl

-- a call's text is parted into its word and its numbers
pub split_call : (call : Call) (text : List ℕ) (r : Option (Bor (List ℕ) × Bor (List ℕ))) → IsSplitOnceResult 32 text r
    → text ≡ call_text call → MatchOption r ⊥ (λ x. (x.0.now ≡ word_of call) × (x.1.now ≡ numbers_of call))
split_call call text r h e =
    split_after 32 text (word_of call) (numbers_of call) r h (lit< tt) (e ∙ text_parts call) (without (word_of call) (one_word call))

ascii_behind : (n : ℕ) (rest : List ℕ) → n < 2 ^ 64 → IsAscii rest → IsAscii (decimal n ++ (32 ∷ rest))
ascii_behind n rest h a = IsAscii-append (decimal n) (32 ∷ rest) (IsAscii-decimal n h) (IsAscii-cons 32 rest (lit< tt) a)

ascii_numbers : (call : Call) → InTypes call → IsAscii (numbers_of call)
ascii_numbers (Report s b) t = ascii_behind s _ t.0 (IsAscii-signed b (small_mag b t.1))
ascii_numbers (Close k) t = IsAscii-decimal k t
ascii_numbers (Reopen k) t = IsAscii-decimal k t
ascii_numbers (Plan l) t =
    ascii_behind l.prices _ t.0 (ascii_behind l.cut _ t.1 (ascii_behind l.station_entries _ t.2 (IsAscii-decimal l.leg_entries t.3)))
ascii_numbers (ListStations n) t = IsAscii-decimal n t
ascii_numbers (ListRuns n) t = IsAscii-decimal n t
ascii_numbers (Read k) t = IsAscii-decimal k t

abbrev beyond : List ℕ → Bool
beyond [] = false
beyond (b ∷ s) = nat_lt 127 b || beyond s

ascii_by : (xs : List ℕ) → beyond xs ≡ false → IsAscii xs
ascii_by [] e = IsAscii-nil
ascii_by (b ∷ s) e =
    let p = or_parts (nat_lt 127 b) (beyond s) e in
    let q = ltb-false 127 b p.0 in
    IsAscii-cons b s (omega (arith, q)) (ascii_by s p.1)

ascii_word : (call : Call) → beyond (word_of call) ≡ false
ascii_word (Report s b) = refl
ascii_word (Close k) = refl
ascii_word (Reopen k) = refl
ascii_word (Plan l) = refl
ascii_word (ListStations n) = refl
ascii_word (ListRuns n) = refl
ascii_word (Read k) = refl

-- a call's text is a text
pub utf8_text : (call : Call) (line : List ℕ) → InTypes call → line ≡ call_text call → IsUtf8 line
utf8_text call line t e =
    let numbers = IsAscii-cons 32 (numbers_of call) (lit< tt) (ascii_numbers call t) in
    let ascii = IsAscii-append (word_of call) (32 ∷ numbers_of call) (ascii_by (word_of call) (ascii_word call)) numbers in
    subst IsUtf8 (sym (e ∙ text_parts call)) (IsUtf8-from_ascii (word_of call ++ (32 ∷ numbers_of call)) ascii)
