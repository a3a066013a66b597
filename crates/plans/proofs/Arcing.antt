-- A network and a standing plan as arcs of the theory, whose fee is the pair of cents and difference.
use Rattle.std.proofs.Common.{◌≡◌, ℕ, zero, suc, ◌+◌, ◌*◌, ◌<◌, ◌≤◌, Bool, cond, not, ◌&&◌, eqb, ltb, leb, List, [], ◌∷◌, length, get_or, ℤ, pos, negsuc, neg_ℤ, sym, refl, ap, ◌∙◌, arith}
use Rattle.std.proofs.lemmas.Int.{ints}
use Rattle.std.specs.List.{AllByRecursion}
use Rattle.records.specs.Cleared.{cleared_leg}
use Rattle.records.specs.declared.leg.Leg.{Leg}
use Rattle.theory.specs.Groups.{two}
use Rattle.theory.specs.Arcs.{Arc, gather, Feasible, fees, Convex, outward}
use Rattle.theory.specs.Arcs
use Rattle.network.specs.Nets.{Net}
use Rattle.plans.specs.Plans.{sum_below, stations, amount, balance_at, in_force, bikes_out, bikes_in, Fits, Obeys, cents, apart, difference, EndsBelow}
use Rattle.plans.specs.Residuals.{Joined, both_group}
use Rattle.plans.specs.Cuts.{leaving, among}
use Rattle.plans.proofs.Sums.{sum_front}

-- what the amount x costs on a leg with that charge and the standing amount s
abbrev pub leg_fee : ℕ → ℕ → ℕ → ℤ × ℤ
leg_fee charge s x = (pos (charge * x), pos (apart x s))

abbrev pub arc : Leg → ℕ → Arc (ℤ × ℤ)
arc l s = record { from = l.start; to = l.end; room = in_force l; fee = leg_fee l.charge s }

-- s k is the standing amount of leg k
abbrev pub arcs : List Leg → (ℕ → ℕ) → List (Arc (ℤ × ℤ))
arcs [] s = []
arcs (l ∷ ls) s = arc l (s 0) ∷ arcs ls (λ k. s (suc k))

abbrev pub arcs_of : Net → List ℕ → List (Arc (ℤ × ℤ))
arcs_of net standing = arcs net.legs (amount standing)

-- ---- the fee of a leg
pub bends : (charge s : ℕ) → Convex both_group (leg_fee charge s)
unfolding Convex
bends charge s k = (omega (arith, ints), λ _. omega (arith, ints))

pub one_more : (charge s x : ℕ) → both_group.add (leg_fee charge s (suc x)) (both_group.neg (leg_fee charge s x)) ≡ (pos charge, cond (leb s x) (pos 1) (negsuc 0))
one_more charge s x = two (omega (arith, ints)) (grind (arith, ints))

pub one_less : (charge s j : ℕ) → both_group.add (leg_fee charge s j) (both_group.neg (leg_fee charge s (suc j))) ≡ (neg_ℤ (pos charge), cond (ltb s (suc j)) (negsuc 0) (pos 1))
one_less charge s j = two (omega (arith, ints)) (grind (arith, ints))

pub curved : (ls : List Leg) (s : ℕ → ℕ) → AllByRecursion (λ a. Convex both_group a.fee) (arcs ls s)
curved [] s = tt
curved (l ∷ ls) s = (bends l.charge (s 0), curved ls (λ k. s (suc k)))

-- ---- from the legs by number to the arcs one by one
pub each : (P : Arc (ℤ × ℤ) → Type 0) (ls : List Leg) (s : ℕ → ℕ) → ((k : ℕ) → k < length ls → P (arc (get_or ls k cleared_leg) (s k))) → AllByRecursion P (arcs ls s)
each P [] s h = tt
each P (l ∷ ls) s h = (h 0 (omega arith), each P ls (λ k. s (suc k)) (λ k i. h (suc k) (omega arith)))

gathered : (at : Leg → ℕ) (end : Arc (ℤ × ℤ) → ℕ) → ((l : Leg) (s : ℕ) → end (arc l s) ≡ at l) → (v : ℕ) (ls : List Leg) (s : ℕ → ℕ) (xs : List ℕ) → length xs ≡ length ls → gather end v (arcs ls s) xs ≡ sum_below (length ls) (λ k. cond (eqb (at (get_or ls k cleared_leg)) v) (get_or xs k 0) 0)
gathered at end e v [] s xs p = refl
gathered at end e v (l ∷ ls) s [] p = absurd (omega arith)
gathered at end e v (l ∷ ls) s (x ∷ xs) p =
    ap (λ i. cond (eqb i v) x 0 + gather end v (arcs ls (λ k. s (suc k))) xs) (e l (s 0))
    ∙ ap (λ z. cond (eqb (at l) v) x 0 + z) (gathered at end e v ls (λ k. s (suc k)) xs (omega arith))
    ∙ sym (sum_front (length ls) (λ k. cond (eqb (at (get_or (l ∷ ls) k cleared_leg)) v) (get_or (x ∷ xs) k 0) 0))

pub gathered_out : (net : Net) (standing plan : List ℕ) (v : ℕ) → length plan ≡ length net.legs → gather (λ a. a.from) v (arcs_of net standing) plan ≡ bikes_out net plan v
gathered_out net standing plan v p = gathered (λ l. l.start) (λ a. a.from) (λ l s. refl) v net.legs (amount standing) plan p

pub gathered_in : (net : Net) (standing plan : List ℕ) (v : ℕ) → length plan ≡ length net.legs → gather (λ a. a.to) v (arcs_of net standing) plan ≡ bikes_in net plan v
gathered_in net standing plan v p = gathered (λ l. l.end) (λ a. a.to) (λ l s. refl) v net.legs (amount standing) plan p

fitting : (ls : List Leg) (s : ℕ → ℕ) (xs : List ℕ) → length xs ≡ length ls → ((k : ℕ) → k < length ls → get_or xs k 0 ≤ in_force (get_or ls k cleared_leg)) → Arcs.Fits (arcs ls s) xs
fitting [] s [] p h = tt
fitting [] s (x ∷ xs) p h = absurd (omega arith)
fitting (l ∷ ls) s [] p h = absurd (omega arith)
fitting (l ∷ ls) s (x ∷ xs) p h = (h 0 (omega arith), fitting ls (λ k. s (suc k)) xs (omega arith) (λ k i. h (suc k) (omega arith)))

pub fits : (net : Net) (standing plan : List ℕ) → Fits net plan → Arcs.Fits (arcs_of net standing) plan
fits net standing plan h = fitting net.legs (amount standing) plan h.one_each h.within

pub feasible : (net : Net) (standing plan : List ℕ) → Obeys net plan → Feasible (stations net) (balance_at net) (arcs_of net standing) plan
feasible net standing plan h =
    record {
      fits = fits net standing plan h.fits;
      balanced = λ v l. rw (gathered_out net standing plan v h.fits.one_each, gathered_in net standing plan v h.fits.one_each) (h.balanced v l);
    }

paid_legs : (ls : List Leg) (s : ℕ → ℕ) (xs : List ℕ) → length xs ≡ length ls → fees both_group (arcs ls s) xs ≡ (pos (sum_below (length ls) (λ k. (get_or ls k cleared_leg).charge * get_or xs k 0)), pos (sum_below (length ls) (λ k. apart (get_or xs k 0) (s k))))
unfolding fees
paid_legs [] s xs p = refl
paid_legs (l ∷ ls) s [] p = absurd (omega arith)
paid_legs (l ∷ ls) s (x ∷ xs) p =
    ap (both_group.add (leg_fee l.charge (s 0) x)) (paid_legs ls (λ k. s (suc k)) xs (omega arith))
    ∙ two (ap pos (sym (sum_front (length ls) (λ k. (get_or (l ∷ ls) k cleared_leg).charge * get_or (x ∷ xs) k 0)))) (ap pos (sym (sum_front (length ls) (λ k. apart (get_or (x ∷ xs) k 0) (s k)))))

pub paid : (net : Net) (standing plan : List ℕ) → length plan ≡ length net.legs → fees both_group (arcs_of net standing) plan ≡ (pos (cents net plan), pos (difference net standing plan))
paid net standing plan p = paid_legs net.legs (amount standing) plan p

leaving_legs : (S : ℕ → Bool) (ls : List Leg) (s : ℕ → ℕ) → outward S (arcs ls s) ≡ sum_below (length ls) (λ k. cond (S (get_or ls k cleared_leg).start && not (S (get_or ls k cleared_leg).end)) (in_force (get_or ls k cleared_leg)) 0)
leaving_legs S [] s = refl
leaving_legs S (l ∷ ls) s =
    ap (λ z. cond (S l.start && not (S l.end)) (in_force l) 0 + z) (leaving_legs S ls (λ k. s (suc k)))
    ∙ sym (sum_front (length ls) (λ k. cond (S (get_or (l ∷ ls) k cleared_leg).start && not (S (get_or (l ∷ ls) k cleared_leg).end)) (in_force (get_or (l ∷ ls) k cleared_leg)) 0))

pub outward_is : (net : Net) (standing vs : List ℕ) → outward (λ v. among v vs) (arcs_of net standing) ≡ leaving net vs
outward_is net standing vs = leaving_legs (λ v. among v vs) net.legs (amount standing)

pub placed : (net : Net) (standing : List ℕ) → EndsBelow net → AllByRecursion (λ a. (a.from < stations net) × (a.to < stations net)) (arcs_of net standing)
placed net standing h = each (λ a. (a.from < stations net) × (a.to < stations net)) net.legs (amount standing) h

pub joined : (net : Net) → EndsBelow net → (k : ℕ) → k < length net.legs → Joined net k
joined net e k h = record { there = h; start_below = (e k h).0; end_below = (e k h).1 }

-- ---- an arc by its number; a cleared leg stands for one that is not there
abbrev pub no_arc : Arc (ℤ × ℤ)
no_arc = arc cleared_leg 0

pub arcs_length : (ls : List Leg) (s : ℕ → ℕ) → length (arcs ls s) ≡ length ls
arcs_length [] s = refl
arcs_length (l ∷ ls) s = ap suc (arcs_length ls (λ k. s (suc k)))

pub arcs_at : (ls : List Leg) (s : ℕ → ℕ) (k : ℕ) → k < length ls → get_or (arcs ls s) k no_arc ≡ arc (get_or ls k cleared_leg) (s k)
arcs_at [] s k h = absurd (omega arith)
arcs_at (l ∷ ls) s zero h = refl
arcs_at (l ∷ ls) s (suc k) h = arcs_at ls (λ k. s (suc k)) k (omega arith)

pub convex_at : (ls : List Leg) (s : ℕ → ℕ) (k : ℕ) → Convex both_group (get_or (arcs ls s) k no_arc).fee
convex_at [] s k = bends 0 0
convex_at (l ∷ ls) s zero = bends l.charge (s 0)
convex_at (l ∷ ls) s (suc k) = convex_at ls (λ k. s (suc k)) k
