-- Reached stations written one by one.
use Rattle.std.proofs.Common.{◌≡◌, ℕ, ◌≤◌, List, length, take, drop}
use Rattle.search.specs.declared.label.Label.{Label}
use Rattle.planning.specs.Reached.{reached_below}

-- those below i are written
pub record Gathered {C : Type 0} (i : ℕ) (ls : List (Label C)) (count : ℕ) (old cut : List ℕ) : Type 0 where
  pub few : count ≤ i
  pub long : length cut ≡ length old
  pub written : take count cut ≡ reached_below ls i
  pub beyond : drop count cut ≡ drop count old
