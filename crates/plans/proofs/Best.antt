-- A potential that no residual step undercuts: the plan is cheapest, then nearest, and no round trip totals below zero.
use Rattle.std.proofs.Common.{ℕ, suc, ◌<◌, cond, ltb, List, [], ◌∷◌, length, get_or, ℤ, pos, negsuc, neg_ℤ, ◌≤ℤ◌, sym, refl, ap, ◌∙◌, arith}
use Rattle.std.proofs.lemmas.Int.{ints}
use Rattle.records.specs.Cleared.{cleared_leg}
use Rattle.records.specs.declared.leg.Leg.{Leg}
use Rattle.network.specs.Nets.{Net}
use Rattle.theory.specs.Groups.{whole}
use Rattle.theory.specs.Arcs.{ReducedCosts, Uncut}
use Rattle.theory.proofs.Adding
use Rattle.theory.proofs.Duality
use Rattle.theory.proofs.Walking
use Rattle.plans.specs.Plans.{stations, leg_at, amount, Obeys, cents, difference, CheapestThenNearest, EndsBelow}
use Rattle.plans.specs.declared.direction.Direction.TheVariants.{Forth, Back}
use Rattle.plans.specs.Residuals.{forward, backward, step_bikes, CentsStep, BothStep, both_group, Certifies}
use Rattle.plans.specs.Prices.{CentsRoundTrip}
use Rattle.plans.proofs.Arcing.{arc, arcs, arcs_of, one_more, one_less, curved, feasible, paid, placed, joined}

-- what the potential says of one leg
at_leg : (net : Net) (standing plan : List ℕ) (π : ℕ → ℤ × ℤ) → EndsBelow net → Certifies net standing plan π → (k : ℕ) → k < length net.legs → ReducedCosts both_group π (arc (leg_at net k) (amount standing k)) (amount plan k)
at_leg net standing plan π e c k h =
    let l = leg_at net k in
    let s = amount standing k in
    let x = amount plan k in
    let j = joined net e k h in
    record {
      more = λ i. Adding.regrouped both_group (c _ _ _ (forward k j refl refl i refl)) refl (ap (both_group.add (π l.start)) (one_more l.charge s x));
      less = λ y q. Adding.regrouped both_group (c _ _ _ (backward k j refl refl (omega arith) refl)) refl (ap (both_group.add (π l.end)) (one_less l.charge s y ∙ ap (λ z. (neg_ℤ (pos l.charge), cond (ltb s z) (negsuc 0) (pos 1))) (sym q)));
    }

uncut : (π : ℕ → ℤ × ℤ) (ls : List Leg) (s : ℕ → ℕ) (xs : List ℕ) → ((k : ℕ) → k < length ls → ReducedCosts both_group π (arc (get_or ls k cleared_leg) (s k)) (get_or xs k 0)) → Uncut both_group π (arcs ls s) xs
uncut π [] s xs h = tt
uncut π (l ∷ ls) s [] h = tt
uncut π (l ∷ ls) s (x ∷ xs) h = (h 0 (omega arith), uncut π ls (λ k. s (suc k)) xs (λ k i. h (suc k) (omega arith)))

-- no other plan is below in the pair of cents and difference
no_better : (net : Net) (standing plan : List ℕ) (π : ℕ → ℤ × ℤ) → EndsBelow net → Obeys net plan → Certifies net standing plan π → (other : List ℕ) → Obeys net other → both_group.le (pos (cents net plan), pos (difference net standing plan)) (pos (cents net other), pos (difference net standing other))
no_better net standing plan π e h c other k =
    Adding.regrouped both_group
    (Duality.cheapest both_group (stations net) _ π (arcs_of net standing) plan other (placed net standing e) (curved net.legs (amount standing)) (feasible net standing plan h) (feasible net standing other k) (uncut π net.legs (amount standing) plan (at_leg net standing plan π e c)))
    (sym (paid net standing plan h.fits.one_each)) (sym (paid net standing other k.fits.one_each))

pub best : (net : Net) (standing plan : List ℕ) (π : ℕ → ℤ × ℤ) → EndsBelow net → Obeys net plan → Certifies net standing plan π → CheapestThenNearest net standing plan
best net standing plan π e h c =
    record {
      obeys = h;
      cheapest = λ other k. omega (arith, ints, (no_better net standing plan π e h c other k).0);
      nearest = λ other k q. let r : pos (cents net other) ≤ℤ pos (cents net plan) = omega (arith, ints) in omega (arith, ints, (no_better net standing plan π e h c other k).1 r);
    }

-- a step at its cents, with its bikes
pub with_bikes : (net : Net) (standing plan : List ℕ) (u v : ℕ) (c : ℤ) → CentsStep net plan u v c → (b : ℤ) × BothStep net standing plan u v (c, b)
with_bikes net standing plan u v c (forward k j p q i e) = (step_bikes standing plan Forth k, forward k j p q i (ap (λ z. (z, step_bikes standing plan Forth k)) e))
with_bikes net standing plan u v c (backward k j p q i e) = (step_bikes standing plan Back k, backward k j p q i (ap (λ z. (z, step_bikes standing plan Back k)) e))

pub no_round_trip : (net : Net) (standing plan : List ℕ) (π : ℕ → ℤ × ℤ) → Certifies net standing plan π → CentsRoundTrip net plan → ⊥
no_round_trip net standing plan π c trip =
    Walking.no_trip_at whole (CentsStep net plan) (λ _. Unit {0}) (λ v. (π v).0)
    (λ u v z _ s. (tt, (c u v (z, (with_bikes net standing plan u v z s).0) (with_bikes net standing plan u v z s).1).0)) trip tt
