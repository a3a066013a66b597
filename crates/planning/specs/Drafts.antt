-- What drafts of a plan go through.
--   left_after_change   what is left over where one station has so much more
--   left_after_move     what is left over after bikes went from one station to another
--   SameDraft           both slices stay lent, and keep their lengths
--   SameBeyond          amounts beyond the legs and what is left over beyond the stations stay
use Rattle.std.specs.Prelude.{◌≡◌, ℕ, List, length, drop, ℤ, pos, ◌+ℤ◌, neg_ℤ, slice_index_or, slice_set}
use Rattle.std.specs.Int.{saturate_to_bits}
use Rattle.network.specs.Nets.{Net}
use Rattle.plans.specs.Plans.{stations}
use Rattle.plans.specs.Slices.{SameSlice}
use Rattle.planning.specs.declared.draft.Draft.{Draft}

-- up to the limits of 64 bits; at a number beyond the list nothing changes
abbrev pub left_after_change : List ℤ → ℕ → ℤ → List ℤ
left_after_change xs v z = slice_set xs v (saturate_to_bits 63 (slice_index_or xs v (pos 0) +ℤ z))

abbrev pub left_after_move : ℕ → ℕ → ℕ → List ℤ → List ℤ
left_after_move u v b xs = left_after_change (left_after_change xs u (neg_ℤ (pos b))) v (pos b)

pub record SameDraft (before after : Draft) : Type 0 where
  pub amounts : SameSlice before.amounts after.amounts
  pub left : SameSlice before.left after.left

pub record SameBeyond (net : Net) (before after : Draft) : Type 0 where
  pub amounts : drop (length net.legs) after.amounts.now ≡ drop (length net.legs) before.amounts.now
  pub left : drop (stations net) after.left.now ≡ drop (stations net) before.left.now
