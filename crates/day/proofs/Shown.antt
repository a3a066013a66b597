-- What `{:?}` writes of a slice of numbers.
use Rattle.std.proofs.Common.{◌≡◌, ℕ, List, [], ◌∷◌, map, Some, refl, ap}
use Rattle.std.specs.Fmt.{debug_list, debug_items, comma_space, ◌++?◌}
use Rattle.day.specs.Lines.{joined, bracketed}

items_shown : {X : Type 0} (f : X → List ℕ) (lead : List ℕ) (xs : List X) → debug_items (λ x. Some (f x)) lead xs ≡ Some (joined lead (map f xs))
items_shown f lead [] = refl
items_shown f lead (x ∷ xs) = ap (λ o. Some lead ++? Some (f x) ++? o) (items_shown f comma_space xs)

-- numbers in brackets
pub shown : {X : Type 0} (f : X → List ℕ) (xs : List X) → debug_list (λ x. Some (f x)) xs ≡ Some (bracketed (map f xs))
shown f xs = ap (λ o. Some (91 ∷ []) ++? o ++? Some (93 ∷ [])) (items_shown f [] xs)
