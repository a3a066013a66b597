-- What the calls that write a list answer and leave.
--   Marked    marked are those on the list
--   Placed    a list that stands in the first entries of a slice, with marks
--   Made      what a list that was made leaves
--   Listing   what the call answers and leaves
--   Renews    what the call on a kept list answers and leaves: the list now kept, and the slices
--   Writes    the same of a list that is only written, following an earlier one
-- A prime marks what a slice holds afterwards.
use Rattle.std.specs.Prelude.{◌≡◌, ℕ, ◌<◌, ◌≤◌, Bool, false, ◌⊎◌, List, length, take, drop, Ok, Err, count_by, Result, slice_index_or}
use Rattle.records.specs.declared.refusal.Refusal.{Refusal}
use Rattle.records.specs.declared.refusal.Refusal.TheVariants.{SliceTooShort}
use Rattle.plans.specs.Cuts.{among}
use Rattle.listing.specs.Lists.{listed}

-- the list is the first w of the slice; as many marks are set as it has entries, so it always has room
pub record Marked (count w : ℕ) (marks : List Bool) (out : List ℕ) : Type 0 where
  pub marks_suffice : count ≤ length marks
  pub slice_suffices : count ≤ length out
  pub marked : (v : ℕ) → v < count → slice_index_or marks v false ≡ among v (take w out)
  pub counted : w ≡ count_by (λ b. b) (take count marks)

-- what the slice holds beyond stays; marked are those on the list
pub record Placed (vs : List ℕ) (count r : ℕ) (marks marks' : List Bool) (out out' : List ℕ) : Type 0 where
  pub long : r ≡ length vs
  pub list : take r out' ≡ vs
  pub beyond : drop r out' ≡ drop r out
  pub marked : (v : ℕ) → v < count → slice_index_or marks' v false ≡ among v vs
  pub marks_beyond : drop count marks' ≡ drop count marks

-- the list stands in the first entries of what is kept, too, and what that holds beyond stays
pub record Made (vs : List ℕ) (count r : ℕ) (kept kept' : List ℕ) (marks marks' : List Bool) (out out' : List ℕ) : Type 0 where
  pub placed : Placed vs count r marks marks' out out'
  pub remembered : take r kept' ≡ vs
  pub kept_beyond : drop r kept' ≡ drop r kept

-- accepted exactly when no slice is shorter than the count, and else nothing is altered
abbrev pub Listing : (ℕ → Bool) → ℕ → List ℕ → Result ℕ Refusal → List ℕ → List ℕ → List Bool → List Bool → List ℕ → List ℕ → Type 0
Listing belongs count earlier (Ok r) kept kept' marks marks' out out' =
    ((count ≤ length out) × (count ≤ length kept) × (count ≤ length marks)) × Made (listed belongs count earlier) count r kept kept' marks marks' out out'
Listing belongs count earlier (Err e) kept kept' marks marks' out out' =
    (e ≡ SliceTooShort) × ((length out < count) ⊎ ((length kept < count) ⊎ (length marks < count))) × ((kept' ≡ kept) × (marks' ≡ marks) × (out' ≡ out))

-- of a list of at most so many: accepted exactly when neither that nor a slice is shorter than the count, and else nothing is altered
abbrev pub Renews : (ℕ → Bool) → ℕ → ℕ → Result ℕ Refusal → List ℕ → List ℕ → List Bool → List Bool → List ℕ → List ℕ → Type 0
Renews belongs count most (Ok r) earlier now marks marks' out out' = ((count ≤ length out) × (count ≤ most) × (count ≤ length marks)) × (now ≡ listed belongs count earlier) × Placed now count r marks marks' out out'
Renews belongs count most (Err e) earlier now marks marks' out out' =
    (e ≡ SliceTooShort) × ((length out < count) ⊎ ((most < count) ⊎ (length marks < count))) × ((now ≡ earlier) × (marks' ≡ marks) × (out' ≡ out))

-- there is room for a list of at most so many
abbrev pub Writes : (ℕ → Bool) → ℕ → ℕ → Result ℕ Refusal → List ℕ → List Bool → List Bool → List ℕ → List ℕ → Type 0
Writes belongs count most (Ok r) earlier marks marks' out out' =
    ((count ≤ length out) × (count ≤ most) × (count ≤ length marks)) × (r ≤ count) × Placed (listed belongs count earlier) count r marks marks' out out'
Writes belongs count most (Err e) earlier marks marks' out out' = (e ≡ SliceTooShort) × ((length out < count) ⊎ ((most < count) ⊎ (length marks < count))) × ((marks' ≡ marks) × (out' ≡ out))
