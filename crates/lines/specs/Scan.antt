-- How a line is taken apart, from its first byte to its last.
--   is_digit   a byte that is a digit, `0` to `9`
--   Stops      bytes that do not begin with a digit
--   BeginsWith bytes that begin with a digit, its worth, and what follows it
--   Parsed     what a parser answers, by the value and the bytes behind it that it has to find, if any
--   scanned    the number that up to k digits at the front add to one begun, and what follows them
--   numeral    a number of one to nine digits at the front, and what follows it
--   field      a space and then a numeral
--   ◌then◌     an answer, and then what is made of it
--   signed     a numeral, with or without a minus sign before it, by `either`, `as_positive` and `as_negative`
--   ended      a line behind which nothing follows
--   flow       a space and then a signed numeral
--   after      what follows a word, where the bytes begin with it
--   comment, problem, node, arc   what may follow a line's first letter
--   scan       the line that bytes spell, if any
use Rattle.std.specs.Prelude.{◌≡◌, ℕ, ◌≤◌, true, false, zero, suc, ◌+◌, ◌-◌, ◌*◌, Bool, cond, ◌&&◌, List, [], ◌∷◌, ℤ, pos, neg_ℤ, Some, None, codes, Option, ◌==◌, nat_le}
use Rattle.std.specs.Option.{option_map}
use Rattle.std.specs.Borrow.{Bor}
use Rattle.lines.specs.declared.line.Line.{Line}
use Rattle.lines.specs.declared.line.Line.TheVariants.{Comment, Problem, Node, Arc}

abbrev pub is_digit : ℕ → Bool
is_digit b = nat_le 48 b && nat_le b 57

abbrev pub Stops : List ℕ → Type 0
Stops [] = Unit {0}
Stops (b ∷ s) = is_digit b ≡ false

pub record BeginsWith (s : List ℕ) (d : ℕ) (rest : List ℕ) : Type 0 where
  pub byte : ℕ
  pub parts : s ≡ byte ∷ rest
  pub digit : is_digit byte ≡ true
  pub worth : d ≡ byte - 48
  pub small : d ≤ 9

abbrev pub Parsed : {X : Type 0} → Option (X × Bor (List ℕ)) → Option (X × List ℕ) → Type 0
Parsed None found = found ≡ None
Parsed (Some p) found = found ≡ Some (p.0, p.1.now)

-- k more digits at most, onto the number begun
abbrev pub scanned : ℕ → ℕ → List ℕ → ℕ × List ℕ
scanned k begun [] = (begun, [])
scanned zero begun (b ∷ s) = (begun, b ∷ s)
scanned (suc k) begun (b ∷ s) = cond (is_digit b) (scanned k (begun * 10 + (b - 48)) s) (begun, b ∷ s)

abbrev pub numeral : List ℕ → Option (ℕ × List ℕ)
numeral [] = None
numeral (b ∷ s) = cond (is_digit b) (Some (scanned 8 (b - 48) s)) None

infixr 20 ◌then◌
-- an answer, and then what is made of it
abbrev pub ◌then◌ : {X Y : Type 0} → Option X → (X → Option Y) → Option Y
None then f = None
Some x then f = f x

-- what follows a word, where the bytes begin with it
abbrev pub after : List ℕ → List ℕ → Option (List ℕ)
after [] s = Some s
after (b ∷ word) [] = None
after (b ∷ word) (c ∷ s) = cond (c == b) (after word s) None

abbrev pub field : List ℕ → Option (ℕ × List ℕ)
field s = after (codes " ") s then numeral

-- the numeral as it stands, or below zero
abbrev pub as_positive : ℕ × List ℕ → ℤ × List ℕ
as_positive p = (pos p.0, p.1)

abbrev pub as_negative : ℕ × List ℕ → ℤ × List ℕ
as_negative p = (neg_ℤ (pos p.0), p.1)

abbrev pub either : Option (List ℕ) → List ℕ → Option (ℤ × List ℕ)
either (Some rest) s = option_map as_negative (numeral rest)
either None s = option_map as_positive (numeral s)

abbrev pub signed : List ℕ → Option (ℤ × List ℕ)
signed s = either (after (codes "-") s) s

abbrev pub flow : List ℕ → Option (ℤ × List ℕ)
flow s = after (codes " ") s then signed

-- the line, where nothing follows
abbrev pub ended : List ℕ → Line → Option Line
ended [] l = Some l
ended (b ∷ s) l = None

abbrev pub comment : List ℕ → Option Line
comment [] = Some Comment
comment (b ∷ s) = cond (b == 32) (Some Comment) None

abbrev pub problem : List ℕ → Option Line
problem s = after (codes " min") s then λ s. field s then λ n. field n.1 then λ a. ended a.1 (Problem n.0 a.0)

abbrev pub node : List ℕ → Option Line
node s = field s then λ i. flow i.1 then λ f. ended f.1 (Node i.0 f.0)

abbrev pub arc : List ℕ → Option Line
arc s = field s then λ a. field a.1 then λ b. field b.1 then λ c. field c.1 then λ d. field d.1 then λ e.
    ended e.1 (Arc a.0 b.0 c.0 d.0 e.0)

-- by the first byte: c, p, n or a
abbrev pub scan : List ℕ → Option Line
scan [] = None
scan (b ∷ s) =
    cond (b == 99) (comment s) (cond (b == 112) (problem s) (cond (b == 110) (node s) (cond (b == 97) (arc s) None)))
