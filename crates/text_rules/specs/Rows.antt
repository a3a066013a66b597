-- A text as a list of rows, the bytes of its lines. Byte 10 ends a line, and so does the end of the text.
--   NoEnd       bytes among which no line end stands
--   Parted      rows, and the text that they make up
--   first_row   the bytes before the first line end, or all of them
--   behind      the bytes behind the first line end
--   rows        the rows of a text, by `onto`
use Rattle.std.specs.Prelude.{◌≡◌, ℕ, ◌≤◌, cond, ◌⊎◌, List, [], ◌∷◌, ◌++◌, length, ◌==◌, ◌≢◌}

abbrev pub NoEnd : List ℕ → Type 0
NoEnd [] = Unit {0}
NoEnd (b ∷ s) = (b ≢ 10) × NoEnd s

-- each row is ended by byte 10; the last one, where it is not empty, may be ended by the text instead
abbrev pub Parted : List (List ℕ) → List ℕ → Type 0
Parted [] text = text ≡ []
Parted (row ∷ rest) text =
    NoEnd row
    × (((more : List ℕ) × (text ≡ row ++ (10 ∷ more)) × Parted rest more)
    ⊎ ((text ≡ row) × (1 ≤ length row) × (rest ≡ [])))

abbrev pub first_row : List ℕ → List ℕ
first_row [] = []
first_row (b ∷ s) = cond (b == 10) [] (b ∷ first_row s)

abbrev pub behind : List ℕ → List ℕ
behind [] = []
behind (b ∷ s) = cond (b == 10) s (behind s)

-- a byte before the first of some rows
abbrev pub onto : ℕ → List (List ℕ) → List (List ℕ)
onto b [] = (b ∷ []) ∷ []
onto b (row ∷ rest) = (b ∷ row) ∷ rest

abbrev pub rows : List ℕ → List (List ℕ)
rows [] = []
rows (b ∷ s) = cond (b == 10) ([] ∷ rows s) (onto b (rows s))
