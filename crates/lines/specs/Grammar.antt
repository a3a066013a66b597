-- The forms of a line, as the format's description gives them.
--   Digits    bytes that are all digits, `0` to `9`
--   worth     the number that digits write, base ten; `worth_from` goes on from a number begun
--   Numeral   one to nine digits, and the number that they write; leading zeros count as digits
--   Signed    a numeral, or a minus sign and a numeral
--   Written   a line and the bytes that spell it, with a single space between fields
--   Spelled   what scanning bytes came to, judged by the forms
use Rattle.std.specs.Prelude.{◌≡◌, ℕ, ◌+◌, ◌-◌, ◌*◌, ◌≤◌, ◌⊎◌, List, [], ◌∷◌, ◌++◌, length, ℤ, pos, neg_ℤ, Some, None, codes, Option}
use Rattle.lines.specs.declared.line.Line.{Line}
use Rattle.lines.specs.declared.line.Line.TheVariants.{Comment, Problem, Node, Arc}

abbrev pub Digits : List ℕ → Type 0
Digits [] = Unit {0}
Digits (b ∷ ds) = (48 ≤ b) × (b ≤ 57) × Digits ds

-- the number that digits write behind a number begun
abbrev pub worth_from : ℕ → List ℕ → ℕ
worth_from begun [] = begun
worth_from begun (b ∷ ds) = worth_from (begun * 10 + (b - 48)) ds

abbrev pub worth : List ℕ → ℕ
worth ds = worth_from 0 ds

pub record Numeral (ds : List ℕ) (n : ℕ) : Type 0 where
  pub some : 1 ≤ length ds
  pub few : length ds ≤ 9
  pub digits : Digits ds
  pub value : n ≡ worth ds

-- bytes and the whole number that they write, with or without a minus sign
abbrev pub Signed : List ℕ → ℤ → Type 0
Signed bs z =
    ((n : ℕ) × Numeral bs n × (z ≡ pos n))
    ⊎ ((ds : List ℕ) × (n : ℕ) × (bs ≡ codes "-" ++ ds) × Numeral ds n × (z ≡ neg_ℤ (pos n)))

abbrev pub Written : Line → List ℕ → Type 0
Written Comment bs = (bs ≡ codes "c") ⊎ ((any : List ℕ) × (bs ≡ codes "c " ++ any))
Written (Problem nodes arcs) bs =
    (n : List ℕ) × (a : List ℕ) × Numeral n nodes × Numeral a arcs
    × (bs ≡ codes "p min " ++ (n ++ (codes " " ++ a)))
Written (Node id flow) bs =
    (i : List ℕ) × (f : List ℕ) × Numeral i id × Signed f flow
    × (bs ≡ codes "n " ++ (i ++ (codes " " ++ f)))
Written (Arc source target low capacity cost) bs =
    (s : List ℕ) × (t : List ℕ) × (l : List ℕ) × (c : List ℕ) × (k : List ℕ)
    × Numeral s source × Numeral t target × Numeral l low × Numeral c capacity × Numeral k cost
    × (bs ≡ codes "a " ++ (s ++ (codes " " ++ (t ++ (codes " " ++ (l ++ (codes " " ++ (c ++ (codes " " ++ k)))))))))

-- a line is found exactly where the bytes spell one, and it is the only one that they spell
abbrev pub Spelled : Option Line → List ℕ → Type 0
Spelled None bs = (l : Line) → Written l bs → ⊥
Spelled (Some l) bs = Written l bs × ((k : Line) → Written k bs → k ≡ l)
