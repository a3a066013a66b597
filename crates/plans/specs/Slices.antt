-- Slices that are lent within a struct.
--   SameSlice    a slice that is lent stays lent, and keeps its length
use Rattle.std.specs.Prelude.{◌≡◌, List, length}
use Rattle.std.specs.Borrow.{MutBor}

pub record SameSlice {A : Type 0} (before after : MutBor (List A)) : Type 0 where
  pub name : after.ghost_name ≡ before.ghost_name
  pub long : length after.now ≡ length before.now
