-- What a list is that keeps its order.
--   candidate    whether a number may be on the list
--   enter        a list after a number was looked at
--   entered      a list after several were looked at, one after the other
--   listed       the list that follows an earlier one
--   Before       one number stands before another on a list
--   Ordered      what a list keeps that follows an earlier one
--   KeepsOrder   the list that follows an earlier one that names nobody twice keeps it
--   Determined   no other list does, where the earlier one names nobody twice
--   stayers      those of an earlier list that still may be on the list
--   newcomers    those that were not on it and now may be
--   InTwoParts   the list has the stayers first, then the newcomers, where the earlier one names nobody twice
-- A test `belongs` tells who belongs, and the numbers are those below `count`.
use Rattle.std.specs.Prelude.{◌≡◌, ℕ, ◌<◌, Bool, true, false, cond, not, ◌&&◌, ◌⊎◌, List, [], ◌∷◌, ◌++◌, fold, filter, nat_lt}
use Rattle.std.specs.List.{range_with_len}
use Rattle.theory.specs.Walks.{Distinct}
use Rattle.plans.specs.Cuts.{among}

abbrev pub candidate : (ℕ → Bool) → ℕ → ℕ → Bool
candidate belongs count v = nat_lt v count && belongs v

-- who may be on the list and is not on it yet goes to its end
abbrev pub enter : (ℕ → Bool) → ℕ → List ℕ → ℕ → List ℕ
enter belongs count vs v = cond (candidate belongs count v && not (among v vs)) (vs ++ v ∷ []) vs

abbrev pub entered : (ℕ → Bool) → ℕ → List ℕ → List ℕ → List ℕ
entered belongs count vs us = fold (enter belongs count) vs us

-- from an empty list, first those of the earlier list are looked at, in its order, then all numbers, rising;
-- so who stands twice on the earlier list keeps the first of its places
abbrev pub listed : (ℕ → Bool) → ℕ → List ℕ → List ℕ
listed belongs count earlier = entered belongs count (entered belongs count [] earlier) (range_with_len 0 count)

-- u is the first, and v is behind it; or both are behind the first
abbrev pub Before : ℕ → ℕ → List ℕ → Type 0
Before u v [] = ⊥
Before u v (w ∷ ws) = ((u ≡ w) × (among v ws ≡ true)) ⊎ Before u v ws

-- it names nobody twice, nobody who does not belong, and everybody who does; of two that it names, one of the
-- earlier list is before one that was not on it, two of the earlier list are in the same order as there,
-- and two that were not on it are by rising number
pub record Ordered (belongs : ℕ → Bool) (count : ℕ) (earlier now : List ℕ) : Type 0 where
  pub once : Distinct now
  pub only : (v : ℕ) → among v now ≡ true → (v < count) × (belongs v ≡ true)
  pub all : (v : ℕ) → v < count → belongs v ≡ true → among v now ≡ true
  pub newcomers_last : (u v : ℕ) → among u now ≡ true → among v now ≡ true → among u earlier ≡ true → among v earlier ≡ false → Before u v now
  pub order_kept : (u v : ℕ) → among u now ≡ true → among v now ≡ true → Before u v earlier → Before u v now
  pub newcomers_rise : (u v : ℕ) → among u now ≡ true → among v now ≡ true → among u earlier ≡ false → among v earlier ≡ false → u < v → Before u v now

-- here and in the two below, where the earlier list names nobody twice
abbrev pub KeepsOrder : Type 0
KeepsOrder = (belongs : ℕ → Bool) (count : ℕ) (earlier : List ℕ) → Distinct earlier → Ordered belongs count earlier (listed belongs count earlier)

abbrev pub Determined : Type 0
Determined = (belongs : ℕ → Bool) (count : ℕ) (earlier now : List ℕ) → Distinct earlier → Ordered belongs count earlier now → now ≡ listed belongs count earlier

-- in their earlier order
abbrev pub stayers : (ℕ → Bool) → ℕ → List ℕ → List ℕ
stayers belongs count earlier = filter (candidate belongs count) earlier

-- by rising number
abbrev pub newcomers : (ℕ → Bool) → ℕ → List ℕ → List ℕ
newcomers belongs count earlier = filter (λ v. candidate belongs count v && not (among v earlier)) (range_with_len 0 count)

abbrev pub InTwoParts : Type 0
InTwoParts = (belongs : ℕ → Bool) (count : ℕ) (earlier : List ℕ) → Distinct earlier → listed belongs count earlier ≡ stayers belongs count earlier ++ newcomers belongs count earlier
