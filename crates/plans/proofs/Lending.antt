-- Slices that stay the same.
use Rattle.std.proofs.Common.{List, refl, ◌∙◌}
use Rattle.std.specs.Borrow.{MutBor}
use Rattle.plans.specs.Slices.{SameSlice}

pub same_slice : {A : Type 0} (a : MutBor (List A)) → SameSlice a a
same_slice a = record { name = refl; long = refl }

pub slice_twice : {A : Type 0} {a b c : MutBor (List A)} → SameSlice a b → SameSlice b c → SameSlice a c
slice_twice p q = record { name = q.name ∙ p.name; long = q.long ∙ p.long }
