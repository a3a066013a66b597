-- What is left over at each station after bikes went from one to another, as long as 64 bits hold it.
use Rattle.std.proofs.Common.{◌≡◌, ℕ, ◌<◌, Bool, true, false, eqb, cond, List, length, get_or, ℤ, pos, negsuc, ◌+ℤ◌, ◌-ℤ◌, neg_ℤ, sym, refl, ◌∙◌, w64, SFits, arith}
use native.Mathlib.Decide.{ℕ_discrete}
use Rattle.std.specs.Int.{saturate_to_bits}
use Rattle.std.proofs.lemmas.Int.{ints}
use Rattle.std.proofs.lemmas.List.{length-set, get_or-set_same, get_or-set_other}
use Rattle.std.proofs.lemmas.Bool.{eq-eqb, ne_eqb}
use Rattle.theory.specs.Trails.{here}
use Rattle.planning.specs.Drafts.{left_after_change, left_after_move}

held : (z : ℤ) → SFits w64 z → saturate_to_bits 63 z ≡ z
held (pos n) f = omega (arith, ints)
held (negsuc n) f = omega (arith, ints)

less : (t : Bool) (b : ℕ) (x : ℤ) → x +ℤ cond t (neg_ℤ (pos b)) (pos 0) ≡ x -ℤ pos (cond t b 0)
less true b x = omega (arith, ints)
less false b x = omega (arith, ints)

more : (t : Bool) (b : ℕ) (x : ℤ) → x +ℤ cond t (pos b) (pos 0) ≡ x +ℤ pos (cond t b 0)
more true b x = refl
more false b x = refl

at_changed : (xs : List ℤ) (v : ℕ) (z : ℤ) (w : ℕ) → (v ≡ w → (w < length xs) × SFits w64 (get_or xs w (pos 0) +ℤ z)) → get_or (left_after_change xs v z) w (pos 0) ≡ get_or xs w (pos 0) +ℤ cond (eqb v w) z (pos 0)
at_changed xs v z w f =
    elim (ℕ_discrete v w) [
      | yes q ↦ rw (eq-eqb v w q, q) (get_or-set_same xs w _ (pos 0) (f q).0 ∙ held _ (f q).1)
      | no d ↦ let e = get_or-set_other xs v w (saturate_to_bits 63 (get_or xs v (pos 0) +ℤ z)) (pos 0) (λ q. d (sym q)) in rw (ne_eqb v w d) (omega (arith, ints, e))
    ]

-- where 64 bits hold what the two stations have left over
pub handed_at : (u v b : ℕ) (xs : List ℤ) (w : ℕ) → (u ≡ w → (w < length xs) × SFits w64 (get_or xs w (pos 0) -ℤ pos b)) → (v ≡ w → (w < length xs) × SFits w64 ((get_or xs w (pos 0) -ℤ pos (here b u w)) +ℤ pos b))
    → get_or (left_after_move u v b xs) w (pos 0) ≡ (get_or xs w (pos 0) -ℤ pos (here b u w)) +ℤ pos (here b v w)
handed_at u v b xs w f g =
    let mid = left_after_change xs u (neg_ℤ (pos b)) in
    let long = length-set xs u (saturate_to_bits 63 (get_or xs u (pos 0) +ℤ neg_ℤ (pos b))) in
    let first : get_or mid w (pos 0) ≡ get_or xs w (pos 0) -ℤ pos (here b u w) = at_changed xs u (neg_ℤ (pos b)) w (λ q. ((f q).0, omega (arith, ints, (f q).1))) ∙ less (eqb u w) b (get_or xs w (pos 0)) in
    let last = at_changed mid v (pos b) w (λ q. (omega (arith, long, (g q).0), rw first ((g q).1))) in
    last ∙ rw first (more (eqb v w) b (get_or xs w (pos 0) -ℤ pos (here b u w)))

pub length_handed : (u v b : ℕ) (xs : List ℤ) → length (left_after_move u v b xs) ≡ length xs
length_handed u v b xs = length-set _ v _ ∙ length-set xs u _
