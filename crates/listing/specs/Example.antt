-- Three lists, one after the other.
--   Answers      how a test answers for the first four numbers: for 0 as it is said, for 2 that it belongs, for 1 and 3 not
--   ThreeLists   0 and 2 belong; then 2 alone; then 0 and 2 again
use Rattle.std.specs.Prelude.{◌≡◌, ℕ, Bool, true, false, [], ◌∷◌}
use Rattle.listing.specs.Lists.{listed}

pub record Answers (belongs : ℕ → Bool) (zero : Bool) : Type 0 where
  pub at_0 : belongs 0 ≡ zero
  pub at_1 : belongs 1 ≡ false
  pub at_2 : belongs 2 ≡ true
  pub at_3 : belongs 3 ≡ false

-- by every three tests that answer so; who comes back stands behind who stayed
abbrev pub ThreeLists : Type 0
ThreeLists =
    (first then again : ℕ → Bool) → Answers first true → Answers then false → Answers again true
    → (listed first 4 [] ≡ 0 ∷ 2 ∷ []) × (listed then 4 (0 ∷ 2 ∷ []) ≡ 2 ∷ []) × (listed again 4 (2 ∷ []) ≡ 2 ∷ 0 ∷ [])
