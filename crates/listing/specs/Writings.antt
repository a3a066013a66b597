-- A list that is being written, a number at a time.
--   Enters   the list after numbers were looked at
use Rattle.std.specs.Prelude.{◌≡◌, ℕ, ◌≤◌, Bool, List, take, drop}
use Rattle.listing.specs.Lists.{entered}
use Rattle.listing.specs.declared.Writing.{Writing}

-- what the slices hold beyond stays, and so do the slices, the count and who belongs
pub record Enters {B : Type 0} (belongs : ℕ → Bool) (us : List ℕ) (before after : Writing B) : Type 0 where
  pub list : take after.long after.out.now ≡ entered belongs before.count (take before.long before.out.now) us
  pub longer : before.long ≤ after.long
  pub beyond : drop after.long after.out.now ≡ drop after.long before.out.now
  pub marks_beyond : drop before.count after.marks.now ≡ drop before.count before.marks.now
  pub who : after.who.now ≡ before.who.now
  pub count : after.count ≡ before.count
  pub marks : after.marks.ghost_name ≡ before.marks.ghost_name
  pub out : after.out.ghost_name ≡ before.out.ghost_name
