-- A list written into a slice, entry by entry.
use Rattle.std.proofs.Common.{◌≡◌, ℕ, ◌+◌, ◌<◌, ◌≤◌, Bool, true, false, cond, ◌||◌, List, [], ◌∷◌, ◌++◌, length, get_or, take, set, count_by, sym, ap, ◌∙◌, arith}
use native.Mathlib.Decide.{ℕ_discrete}
use Rattle.std.proofs.Math.Seq.{take-set-lt}
use Rattle.std.proofs.lemmas.List.{get_or-set_other, get_or-set_same, get_or-take, length-set, length-take-le, take_more_set}
use Rattle.std.proofs.lemmas.List.Sums.{count_by-le-length, sum_by-set}
use Rattle.std.proofs.lemmas.Bool.{eq-eqb, ne_eqb}
use Rattle.plans.specs.Cuts.{among}
use Rattle.listing.specs.Listings.{Marked}
use Rattle.listing.proofs.Standing.{among_push}

-- how many are marked
abbrev marks_in : List Bool → ℕ
marks_in ms = count_by (λ b. b) ms

marks_more : (n v : ℕ) (ms : List Bool) → n ≤ length ms → v < n → get_or ms v false ≡ false → marks_in (take n (set ms v true)) ≡ marks_in (take n ms) + 1
marks_more n v ms h l e =
    let long : length (take n ms) ≡ n = length-take-le n ms h in
    let before : get_or (take n ms) v false ≡ false = get_or-take n ms v false l ∙ e in
    let sum : marks_in (set (take n ms) v true) + cond (get_or (take n ms) v false) 1 0 ≡ marks_in (take n ms) + 1 = sum_by-set (λ b. cond b 1 0) (take n ms) v true false (omega arith) in
    let zero_more : marks_in (set (take n ms) v true) + 0 ≡ marks_in (take n ms) + 1 = ap (λ b. marks_in (set (take n ms) v true) + cond b 1 0) (sym before) ∙ sum in
    ap marks_in (take-set-lt n ms v true l) ∙ omega arith

-- no list is as long as there are numbers, while one has no mark
pub has_room : (n w v : ℕ) (ms : List Bool) (out : List ℕ) → Marked n w ms out → v < n → get_or ms v false ≡ false → w < n
has_room n w v ms out m h e =
    let s : n ≤ length (set ms v true) = rw (length-set ms v true) m.marks_suffice in
    omega (arith, count_by-le-length (λ b. b) (take n (set ms v true)), length-take-le n (set ms v true) s, m.counted, marks_more n v ms m.marks_suffice h e)

-- a mark and an entry more, of a number that has none
module _ (n v w : ℕ) (ms : List Bool) (out : List ℕ) (m : Marked n w ms out) (h : v < n) (e : get_or ms v false ≡ false) where
  front : take (w + 1) (set out w v) ≡ take w out ++ v ∷ []
  front = take_more_set out w v (omega (arith, has_room n w v ms out m h e, m.slice_suffices))

  pub marked_more : Marked n (w + 1) (set ms v true) (set out w v)
  marked_more =
      record {
        marks_suffice = rw (length-set ms v true) m.marks_suffice;
        slice_suffices = rw (length-set out w v) m.slice_suffices;
        marked = λ u l.
            elim (ℕ_discrete u v) [
              | yes q ↦
                  ap (λ z. get_or (set ms v true) z false) q
                  ∙ get_or-set_same ms v true false (omega (arith, m.marks_suffice))
                  ∙ ap (λ t. t || among u (take w out)) (sym (eq-eqb u v q))
                  ∙ sym (among_push u v (take w out))
                  ∙ ap (among u) (sym front)
              | no q ↦
                  get_or-set_other ms v u true false q
                  ∙ m.marked u l
                  ∙ ap (λ t. t || among u (take w out)) (sym (ne_eqb u v q))
                  ∙ sym (among_push u v (take w out))
                  ∙ ap (among u) (sym front)
            ];
        counted = ap (λ z. z + 1) m.counted ∙ sym (marks_more n v ms m.marks_suffice h e);
      }
