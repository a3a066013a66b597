-- The stations that a search reached, as they are written into a cut.
--   reached         whether a station is labelled
--   reached_below   the reached stations below a number, by rising number
--   WritesCut       a cut after the reached stations were written into it
use Rattle.std.specs.Prelude.{◌≡◌, ℕ, zero, suc, ◌≤◌, Bool, if◌then◌else◌, List, [], ◌∷◌, ◌++◌, length, take, drop, is_some}
use Rattle.search.specs.Labels.{label_at}
use Rattle.search.specs.declared.label.Label.{Label}

abbrev pub reached : {C : Type 0} → List (Label C) → ℕ → Bool
reached ls v = is_some (label_at ls v).arrival

abbrev pub reached_below : {C : Type 0} → List (Label C) → ℕ → List ℕ
reached_below ls zero = []
reached_below ls (suc v) = reached_below ls v ++ (if reached ls v then v ∷ [] else [])

-- further entries stay
pub record WritesCut {C : Type 0} (n : ℕ) (ls : List (Label C)) (count : ℕ) (before after : List ℕ) : Type 0 where
  pub few : count ≤ n
  pub long : length after ≡ length before
  pub written : take count after ≡ reached_below ls n
  pub beyond : drop count after ≡ drop count before
