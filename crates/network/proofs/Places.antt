-- Reading lists by place, where a place past the end is absent.
use Rattle.std.proofs.Common.{◌≡◌, ℕ, ◌+◌, ◌<◌, ◌≤◌, List, ◌++◌, map, length, get_or, Some, None, arith}
use Rattle.std.specs.List.{slice_get, range_with_len}
use Rattle.std.proofs.lemmas.Grind.{common_steps}
use Rattle.std.proofs.lemmas.List.FromFn.{length-map-range_with_len, get_or-map-range_with_len}
use Rattle.std.proofs.lemmas.Option.{unwrap_or-slice_get, gets}

-- a place with nothing is read as the default
pub get_or_none : {X : Type 0} (xs : List X) (i : ℕ) (d : X) → slice_get xs i ≡ None → get_or xs i d ≡ d
get_or_none xs i d e = rw (← unwrap_or-slice_get xs i d, e)

-- the front and the back of a joined list
pub nth_left : {X : Type 0} (xs ys : List X) (i : ℕ) → i < length xs → slice_get (xs ++ ys) i ≡ slice_get xs i
nth_left xs ys i h = grind (arith, common_steps, gets)

pub nth_right : {X : Type 0} (xs ys : List X) (i j : ℕ) → i ≡ length xs + j → slice_get (xs ++ ys) i ≡ slice_get ys j
nth_right xs ys i j h = grind (arith, common_steps, gets)

-- a list made by a function of the place
pub nth_counted : {X : Type 0} (f : ℕ → X) (n i : ℕ) → i < n → slice_get (map f (range_with_len 0 n)) i ≡ Some (f i)
nth_counted f n i h = grind (arith, common_steps, gets, length-map-range_with_len, get_or-map-range_with_len)

pub nth_counted_past : {X : Type 0} (f : ℕ → X) (n i : ℕ) → n ≤ i → slice_get (map f (range_with_len 0 n)) i ≡ None
nth_counted_past f n i h = grind (arith, gets, length-map-range_with_len)

-- how long such a list is, and what stands in it
pub ruleset counted = (length-map-range_with_len, nth_counted, nth_counted_past)
