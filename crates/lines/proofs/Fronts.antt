-- What stands at the front of bytes, by the grammar and by scanning.
--   numeral_of, last_numeral, last_signed     what the grammar has, scanning finds
--   by_word, by_field, by_flow, ended_from    what scanning finds, the grammar has
use Rattle.std.proofs.Common.{◌≡◌, ℕ, zero, suc, ◌+◌, ◌-◌, ◌*◌, ◌≤◌, true, eqb, List, [], ◌∷◌, ◌++◌, length, ℤ, Some, None, codes, Option, refl, ap, ◌∙◌, inl, inr, append-nil, zero-add, arith}
use Rattle.std.specs.Option.{option_map}
use Rattle.std.proofs.lemmas.Bool.{eqb-true, cond_both}
use Rattle.std.proofs.lemmas.Bool.Decides.{nat_tests}
use Rattle.lines.specs.declared.line.Line.{Line}
use Rattle.lines.specs.Scan.{Stops, scanned, is_digit, numeral, after, ◌then◌, field, signed, either, as_positive, as_negative, flow, ended}
use Rattle.lines.specs.Grammar.{Digits, worth_from, Numeral, Signed}
use Rattle.lines.proofs.Scanning.{stops}

digit_within : (b : ℕ) → 48 ≤ b → b ≤ 57 → is_digit b ≡ true
digit_within b h k = grind (arith, nat_tests)

scanned_of : (k v : ℕ) (ds rest : List ℕ) → Digits ds → length ds ≤ k → Stops rest → scanned k v (ds ++ rest) ≡ (worth_from v ds, rest)
scanned_of k v [] [] d h t = refl
scanned_of k v [] (b ∷ s) d h t = stops k v b s t
scanned_of zero v (b ∷ ds) rest d h t = absurd (omega arith)
scanned_of (suc k) v (b ∷ ds) rest d h t = rw (digit_within b d.0 d.1) (scanned_of k (v * 10 + (b - 48)) ds rest d.2 (omega arith) t)

pub numeral_of : (ds rest : List ℕ) (n : ℕ) → Numeral ds n → Stops rest → numeral (ds ++ rest) ≡ Some (n, rest)
numeral_of [] rest n p t = absurd (omega arith)
numeral_of (b ∷ ds) rest n p t =
    let d = p.digits in
    let e = scanned_of 8 (b - 48) ds rest d.2 (omega arith) t in
    rw (digit_within b d.0 d.1, e, p.value, zero-add)

pub last_numeral : (ds : List ℕ) (n : ℕ) → Numeral ds n → numeral ds ≡ Some (n, [])
last_numeral ds n p = rw append-nil at (numeral_of ds [] n p tt)

no_minus : (ds : List ℕ) (n : ℕ) → Numeral ds n → after (codes "-") ds ≡ None
no_minus [] n p = refl
no_minus (b ∷ ds) n p = let d = p.digits in let h : 48 ≤ b = d.0 in grind (arith, nat_tests)

pub last_signed : (bs : List ℕ) (z : ℤ) → Signed bs z → signed bs ≡ Some (z, [])
last_signed bs z (inl (n, p, e)) = rw (no_minus bs n p, last_numeral bs n p, e)
last_signed bs z (inr (ds, n, is, p, e)) = rw (is, last_numeral ds n p, e)

then_from : {X Y : Type 0} (o : Option X) (f : X → Option Y) (y : Y) → (o then f) ≡ Some y → (x : X) × (o ≡ Some x) × (f x ≡ Some y)
then_from None f y e = cc
then_from (Some x) f y e = (x, refl, e)

pub ended_from : (s : List ℕ) (l k : Line) → ended s l ≡ Some k → (s ≡ []) × (l ≡ k)
ended_from [] l k e = (refl, cc)
ended_from (b ∷ s) l k e = cc

-- k digits at most, which write p .0 behind the number v, in front of p.1
record Front (k v : ℕ) (s : List ℕ) (p : ℕ × List ℕ) : Type 0 where
  ds : List ℕ
  is : s ≡ ds ++ p.1
  digits : Digits ds
  few : length ds ≤ k
  value : p.0 ≡ worth_from v ds

no_front : (k v : ℕ) (s : List ℕ) → Front k v s (v, s)
no_front k v s = record { ds = []; is = refl; digits = tt; few = omega arith; value = refl }

digit_bounds : (b : ℕ) → is_digit b ≡ true → (48 ≤ b) × (b ≤ 57)
digit_bounds b e = (grind (arith, nat_tests), grind (arith, nat_tests))

front_more : (k v b : ℕ) (s : List ℕ) (p : ℕ × List ℕ) → is_digit b ≡ true → Front k (v * 10 + (b - 48)) s p → Front (suc k) v (b ∷ s) p
front_more k v b s p e f =
    record {
      ds = b ∷ f.ds;
      is = ap (λ r. b ∷ r) f.is;
      digits = ((digit_bounds b e).0, (digit_bounds b e).1, f.digits);
      few = omega arith;
      value = f.value;
    }

scanned_front : (k v : ℕ) (s : List ℕ) → Front k v s (scanned k v s)
scanned_front k v [] = no_front k v []
scanned_front zero v (b ∷ s) = no_front zero v (b ∷ s)
scanned_front (suc k) v (b ∷ s) =
    cond_both (is_digit b) (scanned k (v * 10 + (b - 48)) s) (v, b ∷ s) (Front (suc k) v (b ∷ s))
    (λ e. front_more k v b s (scanned k (v * 10 + (b - 48)) s) e (scanned_front k (v * 10 + (b - 48)) s))
    (λ _. no_front (suc k) v (b ∷ s))

-- a numeral that writes p .0, in front of p.1
abbrev Begins : List ℕ → ℕ × List ℕ → Type 0
Begins s p = (ds : List ℕ) × Numeral ds p.0 × (s ≡ ds ++ p.1)

front_begins : (b : ℕ) (s : List ℕ) (p : ℕ × List ℕ) → is_digit b ≡ true → Front 8 (b - 48) s p → Begins (b ∷ s) p
front_begins b s p e f = (
  b ∷ f.ds,
  record {
    some = omega arith;
    few = omega arith;
    digits = ((digit_bounds b e).0, (digit_bounds b e).1, f.digits);
    value = rw zero-add f.value;
  },
  ap (λ r. b ∷ r) f.is,
)

numeral_from : (s : List ℕ) (p : ℕ × List ℕ) → numeral s ≡ Some p → Begins s p
numeral_from [] p e = cc
numeral_from (b ∷ s) p e =
    cond_both (is_digit b) (Some (scanned 8 (b - 48) s)) None (λ o. o ≡ Some p → Begins (b ∷ s) p)
    (λ d e. let q : scanned 8 (b - 48) s ≡ p = cc in front_begins b s p d (rw q at (scanned_front 8 (b - 48) s)))
    (λ _ z. cc)
    e

after_from : (word s rest : List ℕ) → after word s ≡ Some rest → s ≡ word ++ rest
after_from [] s rest e = cc
after_from (b ∷ word) [] rest e = cc
after_from (b ∷ word) (c ∷ s) rest e =
    cond_both (eqb c b) (after word s) None (λ o. o ≡ Some rest → c ∷ s ≡ b ∷ (word ++ rest))
    (λ t e. let q = eqb-true c b t in let r = after_from word s rest e in cc)
    (λ _ z. cc)
    e

-- where an answer was made of what follows a word: the word at the front, and what was made of the rest
pub by_word : {Y P : Type 0} (word s : List ℕ) (f : List ℕ → Option Y) (y : Y) → (after word s then f) ≡ Some y
    → ((rest : List ℕ) → s ≡ word ++ rest → f rest ≡ Some y → P) → P
by_word word s f y e found = let a = then_from (after word s) f y e in found a.0 (after_from word s a.0 a.1) a.2

mapped_from : {X Y : Type 0} (f : X → Y) (o : Option X) (y : Y) → option_map f o ≡ Some y → (x : X) × (o ≡ Some x) × (f x ≡ y)
mapped_from f None y e = cc
mapped_from f (Some x) y e = (x, refl, cc)

either_from : (o : Option (List ℕ)) (s : List ℕ) (p : ℤ × List ℕ) → after (codes "-") s ≡ o → either o s ≡ Some p
    → (f : List ℕ) × Signed f p.0 × (s ≡ f ++ p.1)
either_from None s p is e =
    let w = mapped_from as_positive (numeral s) p e in
    let d = numeral_from s w.0 w.1 in
    (d.0, inl (w.0.0, d.1, cc), cc)
either_from (Some r) s p is e =
    let w = mapped_from as_negative (numeral r) p e in
    let d = numeral_from r w.0 w.1 in
    (45 ∷ d.0, inr (d.0, w.0.0, refl, d.1, cc), after_from (codes "-") s r is ∙ cc)

-- the same of a field, and of a flow
pub by_field : {Y P : Type 0} (s : List ℕ) (f : ℕ × List ℕ → Option Y) (y : Y) → (field s then f) ≡ Some y
    → ((ds rest : List ℕ) (n : ℕ) → Numeral ds n → s ≡ 32 ∷ (ds ++ rest) → f (n, rest) ≡ Some y → P) → P
by_field s f y e found =
    let a = then_from (field s) f y e in
    by_word (codes " ") s numeral a.0 a.1 λ rest is w.
    let d = numeral_from rest a.0 w in
    found d.0 a.0.1 a.0.0 d.1 (is ∙ ap (λ r. 32 ∷ r) d.2) a.2

pub by_flow : {Y P : Type 0} (s : List ℕ) (f : ℤ × List ℕ → Option Y) (y : Y) → (flow s then f) ≡ Some y
    → ((bs rest : List ℕ) (z : ℤ) → Signed bs z → s ≡ 32 ∷ (bs ++ rest) → f (z, rest) ≡ Some y → P) → P
by_flow s f y e found =
    let a = then_from (flow s) f y e in
    by_word (codes " ") s signed a.0 a.1 λ rest is w.
    let d = either_from (after (codes "-") rest) rest a.0 refl w in
    found d.0 a.0.1 a.0.0 d.1 (is ∙ ap (λ r. 32 ∷ r) d.2) a.2
