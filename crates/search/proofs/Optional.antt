-- Labels and worths that are there or absent.
use Rattle.std.proofs.Common.{◌≡◌, ℕ, ◌<◌, Bool, true, false, ◌≢◌, ◌⊎◌, List, length, set, Some, None, Option, refl, inl, inr, get_or-set_other, get_or-set_same}
use Rattle.std.proofs.lemmas.Option.{none-some, same_Some}
use Rattle.std.specs.Option.{option_or}
use Rattle.theory.specs.declared.Grouped.{Ghosts as Kind}
use Rattle.theory.specs.Groups.{OrderedGroup, cancel}
use Rattle.theory.specs.Walks.{AtMost}
use Rattle.search.specs.Labels.{label_at, held, fresh_of, unlabelled}
use Rattle.search.specs.declared.label.Arrival.{Arrival}
use Rattle.search.specs.declared.label.Label.{Label}

-- an option is absent or there
pub option_cases : {X : Type 0} (o : Option X) → (o ≡ None) ⊎ ((x : X) × (o ≡ Some x))
option_cases None = inl refl
option_cases (Some x) = inr (x, refl)

-- ---- what a label that is fresh says
pub fresh_some : {C : Type 0} (b : Bool) (o : Option (Arrival C)) (t : C) → fresh_of b o ≡ Some t → (b ≡ true) × ((y : Arrival C) × (o ≡ Some y) × (y.total ≡ t))
fresh_some false o t e = absurd (none-some t e)
fresh_some true None t e = absurd (none-some t e)
fresh_some true (Some y) t e = (refl, (y, refl, same_Some _ _ e))

pub fresh_is : {C : Type 0} (b : Bool) (o : Option (Arrival C)) (y : Arrival C) → b ≡ true → o ≡ Some y → fresh_of b o ≡ Some y.total
fresh_is b o y p q = rw (p, q) refl

-- ---- labels after a write
pub label_same : {C : Type 0} (ls : List (Label C)) (v : ℕ) (l : Label C) → v < length ls → label_at (set ls v l) v ≡ l
label_same ls v l h = get_or-set_same ls v l unlabelled h

pub label_other : {C : Type 0} (ls : List (Label C)) (v w : ℕ) (l : Label C) → w ≢ v → label_at (set ls v l) w ≡ label_at ls w
label_other ls v w l h = get_or-set_other ls v w l unlabelled h

module _ {A : Type 0} (G : OrderedGroup A) where
  -- of two members that are not in order, the other way round they are
  pub turned : (a b : A) → (G.le a b → ⊥) → G.le b a
  turned a b n = elim (G.le_total a b) [ inl h ↦ absurd (n h) | inr h ↦ h ]

  pub cancel_right : (a b c : A) → G.le (G.add a c) (G.add b c) → G.le a b
  cancel_right a b c h = cancel G a b c (rw (G.comm a c, G.comm b c) at h)

  -- what is not at most x and is at most t: x is at most t
  pub undercut : (o : Option A) (x t : A) → (AtMost G o x → ⊥) → AtMost G o t → G.le x t
  undercut None x t n h = absurd h
  undercut (Some a) x t n h = G.le_trans _ _ _ (turned a x n) h

module _ {C : Type 0} (K : Kind C) where
  pub held_at : (o : Option (Arrival C)) (t : K.Member) → AtMost K.group (held K o) t → (y : Arrival C) × (o ≡ Some y) × K.group.le (K.worth y.total) t
  held_at None t h = absurd h
  held_at (Some y) t h = (y, refl, h)

  pub held_is : (o : Option (Arrival C)) (y : Arrival C) (t : K.Member) → o ≡ Some y → K.group.le (K.worth y.total) t → AtMost K.group (held K o) t
  held_is o y t e h = rw e h

  -- what is found is lower than what is held
  pub under_lowest : (b o : Option (Arrival C)) (y : Arrival C) (t : K.Member) → o ≡ Some y → ((x : Arrival C) → b ≡ Some x → K.group.le (K.worth y.total) (K.worth x.total) → ⊥) → K.group.le (K.worth y.total) t → AtMost K.group (held K (option_or b o)) t
  under_lowest None o y t e low h = rw e h
  under_lowest (Some x) o y t e low h = K.group.le_trans _ _ _ (turned K.group _ _ (low x refl)) h
