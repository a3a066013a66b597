-- A cut excludes every plan; stations that no residual step leaves, with bikes left over, are a cut.
use Rattle.std.proofs.Common.{◌≡◌, ℕ, suc, ◌<◌, Bool, true, List, [], ◌∷◌, length, get_or, ℤ, pos, ◌-ℤ◌, ◌≤ℤ◌, ◌<ℤ◌, sym, refl, ap, ◌∙◌, inl, inr, arith}
use Rattle.std.proofs.lemmas.Int.{ints}
use Rattle.std.specs.List.{AllByRecursion}
use Rattle.std.proofs.lemmas.Bool.{both_ways, cases_lt}
use Rattle.records.specs.Cleared.{cleared_leg}
use Rattle.records.specs.declared.leg.Leg.{Leg}
use Rattle.network.specs.Nets.{Net}
use Rattle.theory.specs.Arcs.{gather, outward, owed, Full, AllFull}
use Rattle.theory.specs.Walks.{Distinct}
use Rattle.theory.proofs.Cuts as Crossing
use Rattle.plans.specs.Plans.{stations, leg_at, amount, balance_at, in_force, bikes_out, bikes_in, Fits, Obeys, EndsBelow}
use Rattle.plans.specs.declared.direction.Direction.{Direction}
use Rattle.plans.specs.Residuals.{forward, backward}
use Rattle.plans.specs.Cuts.{among, sum_over, leaving, Cut, left_over, Uncrossed}
use Rattle.plans.proofs.Sums.{owed_same, owed_listed, sum_over_parts, sum_over_some}
use Rattle.plans.proofs.Arcing.{arc, arcs, arcs_of, each, gathered_out, gathered_in, fits, feasible, outward_is, joined}

starts : (net : Net) → EndsBelow net → AllByRecursion (λ a. a.from < stations net) (arcs_of net [])
starts net e = each (λ a. a.from < stations net) net.legs (amount []) (λ k h. (e k h).0)

ends : (net : Net) → EndsBelow net → AllByRecursion (λ a. a.to < stations net) (arcs_of net [])
ends net e = each (λ a. a.to < stations net) net.legs (amount []) (λ k h. (e k h).1)

pub excludes : (net : Net) (vs : List ℕ) → EndsBelow net → Cut net vs → (plan : List ℕ) → Obeys net plan → ⊥
excludes net vs e c plan h =
    Crossing.cut (stations net) (balance_at net) (λ v. among v vs) (arcs_of net []) plan (starts net e) (ends net e) (feasible net [] plan h)
    (omega (arith, ints, c.over, outward_is net [] vs, owed_listed (stations net) vs (balance_at net) c.different c.below))

-- ---- the converse
full_at : {A : Type 0} (net : Net) (plan : List ℕ) (cost : Direction → ℕ → A) (vs : List ℕ) → EndsBelow net → Uncrossed net plan cost vs → (k : ℕ) → k < length net.legs → Full (λ v. among v vs) (arc (leg_at net k) (amount [] k)) (amount plan k)
full_at net plan cost vs e u k h =
    let j = joined net e k h in
    record {
      more = λ p q. elim (cases_lt (amount plan k) (in_force (leg_at net k))) [
        | inl i ↦ absurd (both_ways _ q (u _ _ _ (forward k j refl refl i refl) p))
        | inr i ↦ i
      ];
      less = λ p q. elim (cases_lt 0 (amount plan k)) [
        | inl i ↦ absurd (both_ways _ q (u _ _ _ (backward k j refl refl i refl) p))
        | inr i ↦ omega arith
      ];
    }

all_full : (S : ℕ → Bool) (ls : List Leg) (s : ℕ → ℕ) (xs : List ℕ) → ((k : ℕ) → k < length ls → Full S (arc (get_or ls k cleared_leg) (s k)) (get_or xs k 0)) → AllFull S (arcs ls s) xs
all_full S [] s xs h = tt
all_full S (l ∷ ls) s [] h = tt
all_full S (l ∷ ls) s (x ∷ xs) h = (h 0 (omega arith), all_full S ls (λ k. s (suc k)) xs (λ k i. h (suc k) (omega arith)))

-- what the stations send out, net
abbrev pub sent : Net → List ℕ → ℕ → ℤ
sent net plan v = pos (bikes_out net plan v) -ℤ pos (bikes_in net plan v)

-- from a set that legs outwards leave full and legs inwards empty
pub all_sent : (net : Net) (plan : List ℕ) (S : ℕ → Bool) → EndsBelow net → Fits net plan → AllFull S (arcs_of net []) plan → owed (stations net) S (sent net plan) ≡ pos (outward S (arcs_of net []))
all_sent net plan S e f a =
    owed_same (stations net) S (sent net plan) (λ v. pos (gather (λ a. a.from) v (arcs_of net []) plan) -ℤ pos (gather (λ a. a.to) v (arcs_of net []) plan)) (λ v _. omega (arith, ints, gathered_out net [] plan v f.one_each, gathered_in net [] plan v f.one_each))
    ∙ Crossing.sends (stations net) S (arcs_of net []) plan (starts net e) (ends net e) (fits net [] plan f) a

sends : {A : Type 0} (net : Net) (plan : List ℕ) (cost : Direction → ℕ → A) (vs : List ℕ) → EndsBelow net → Fits net plan → Distinct vs → AllByRecursion (λ v. v < stations net) vs → Uncrossed net plan cost vs → sum_over (sent net plan) vs ≡ pos (leaving net vs)
sends net plan cost vs e f d b u =
    sym (owed_listed (stations net) vs (sent net plan) d b)
    ∙ all_sent net plan (λ v. among v vs) e f (all_full (λ v. among v vs) net.legs (amount []) plan (full_at net plan cost vs e u))
    ∙ ap pos (outward_is net [] vs)

pub is_cut : {A : Type 0} (net : Net) (plan : List ℕ) (cost : Direction → ℕ → A) (vs : List ℕ) → EndsBelow net → Fits net plan → Distinct vs → AllByRecursion (λ v. v < stations net) vs → Uncrossed net plan cost vs
    → ((v : ℕ) → among v vs ≡ true → pos 0 ≤ℤ left_over net plan v) → (w : ℕ) → among w vs ≡ true → pos 0 <ℤ left_over net plan w → Cut net vs
is_cut net plan cost vs e f d b u h w k p =
    record {
      different = d;
      below = b;
      over = omega (arith, ints, sum_over_parts vs (balance_at net) (sent net plan), sum_over_some vs (left_over net plan) h w k p, sends net plan cost vs e f d b u);
    }
