-- The reached stations are a cut, where bikes are over and no reached station lacks them.
use Rattle.std.proofs.Common.{◌≡◌, ℕ, zero, suc, ◌<◌, Bool, true, false, cond, eqb, ◌⊎◌, List, [], ◌∷◌, ◌++◌, pos, ◌≤ℤ◌, ◌<ℤ◌, Some, None, Option, is_some, refl, inl, inr, arith}
use native.Mathlib.Decide.{ℕ_discrete}
use Rattle.std.specs.List.{AllByRecursion}
use Rattle.std.proofs.ByRecursion.{All-append}
use Rattle.std.proofs.lemmas.List.{append-nil}
use Rattle.std.proofs.lemmas.Bool.{both_ways, eqb-true, or_cases, or_right}
use Rattle.network.specs.Nets.{Net}
use Rattle.theory.specs.declared.Grouped.{Ghosts as Kind}
use Rattle.theory.specs.Walks.{Walk, start, step, Distinct}
use Rattle.plans.specs.Plans.{stations, Fits, EndsBelow}
use Rattle.plans.specs.declared.direction.Direction.{Direction}
use Rattle.plans.specs.Cuts.{among, Cut, left_over, Uncrossed}
use Rattle.plans.proofs.Cutting.{is_cut}
use Rattle.plans.proofs.Sums.{absent_push, among_last}
use Rattle.search.specs.Labels.{label_at}
use Rattle.steps.specs.declared.load.Load.{Load}
use Rattle.steps.specs.Fees.{paid}
use Rattle.search.specs.Searches.{From, StepOf, OverOf, Settles, fee_worth}
use Rattle.search.specs.declared.label.Label.{Label}
use Rattle.search.proofs.Optional.{option_cases}
use Rattle.search.proofs.Stepping.{ends}
use Rattle.planning.specs.Reached.{reached, reached_below}

-- ---- lists by rising number
distinct_more : (w : ℕ) (us : List ℕ) → Distinct us → AllByRecursion (λ u. u < w) us → Distinct (us ++ (w ∷ []))
distinct_more w [] d h = (tt, tt)
distinct_more w (u ∷ us) d h = (absent_push u w us d.0 (λ e. omega (arith, h.0)), distinct_more w us d.1 h.1)

all_wider : (m : ℕ) (us : List ℕ) → AllByRecursion (λ u. u < m) us → AllByRecursion (λ u. u < suc m) us
all_wider m [] h = tt
all_wider m (u ∷ us) h = (omega (arith, h.0), all_wider m us h.1)

-- in a list with one more, that may be there
among_more : (v w : ℕ) (us : List ℕ) (t : Bool) → among v (us ++ cond t (w ∷ []) []) ≡ true → (among v us ≡ true) ⊎ ((t ≡ true) × (v ≡ w))
among_more v w [] true h = elim (or_cases (eqb v w) false h) [ inl e ↦ inr (refl, eqb-true v w e) | inr e ↦ absurd (both_ways false refl e) ]
among_more v w [] false h = inl h
among_more v w (u ∷ us) t h =
    elim (or_cases (eqb v u) (among v (us ++ cond t (w ∷ []) [])) h) [
      | inl e ↦ inl (rw e refl)
      | inr e ↦ elim (among_more v w us t e) [ inl a ↦ inl (or_right (eqb v u) (among v us) a) | inr a ↦ inr a ]
    ]

among_before : (v : ℕ) (us ws : List ℕ) → among v us ≡ true → among v (us ++ ws) ≡ true
among_before v [] ws h = absurd (both_ways false refl h)
among_before v (u ∷ us) ws h = elim (or_cases (eqb v u) (among v us) h) [ inl e ↦ rw e refl | inr e ↦ or_right (eqb v u) _ (among_before v us ws e) ]

module _ {C : Type 0} (ls : List (Label C)) where
  rising_more : (i : ℕ) (us : List ℕ) (t : Bool) → AllByRecursion (λ u. u < i) us → AllByRecursion (λ u. u < suc i) (us ++ cond t (i ∷ []) [])
  rising_more i us true h = All-append (λ u. u < suc i) us (i ∷ []) (all_wider i us h) (omega arith, tt)
  rising_more i us false h = All-append (λ u. u < suc i) us [] (all_wider i us h) tt

  pub below_rising : (i : ℕ) → AllByRecursion (λ u. u < i) (reached_below ls i)
  below_rising zero = tt
  below_rising (suc i) = rising_more i (reached_below ls i) (reached ls i) (below_rising i)

  different_more : (i : ℕ) (us : List ℕ) (t : Bool) → AllByRecursion (λ u. u < i) us → Distinct us → Distinct (us ++ cond t (i ∷ []) [])
  different_more i us true h d = distinct_more i us d h
  different_more i us false h d = rw (append-nil us) d

  pub rising_distinct : (i : ℕ) → Distinct (reached_below ls i)
  rising_distinct zero = tt
  rising_distinct (suc i) = different_more i (reached_below ls i) (reached ls i) (below_rising i) (rising_distinct i)

  pub named_reached : (i v : ℕ) → among v (reached_below ls i) ≡ true → (v < i) × (reached ls v ≡ true)
  named_reached zero v h = absurd (both_ways false refl h)
  named_reached (suc i) v h =
      elim (among_more v i (reached_below ls i) (reached ls i) h) [
        | inl a ↦ let q = named_reached i v a in (omega (arith, q.0), q.1)
        | inr a ↦ (omega (arith, a.1), rw a.1 a.0)
      ]

  pub reached_named : (i v : ℕ) → v < i → reached ls v ≡ true → among v (reached_below ls i) ≡ true
  reached_named zero v h r = absurd (omega arith)
  reached_named (suc i) v h r =
      elim (ℕ_discrete v i) [
        | yes e ↦ let q : reached ls i ≡ true = rw e at r in rw q (rw e (among_last i (reached_below ls i)))
        | no n ↦ among_before v (reached_below ls i) _ (reached_named i v (omega arith) r)
      ]

pub there : {X : Type 0} (o : Option X) → is_some o ≡ true → (x : X) × (o ≡ Some x)
there None h = absurd (both_ways false refl h)
there (Some x) h = (x, refl)

module _ {C : Type 0} (K : Kind C) (net : Net) (plan : List ℕ) (cost : Direction → Load → C) (f : ℕ → Bool) (ls : List (Label C))
    (z : Settles K (stations net) (From net f) (StepOf K net plan cost) (OverOf K net plan cost) ls) where
  -- where a walk comes to, there is a label
  walked : (v : ℕ) (us : List ℕ) (t : K.Member) → v < stations net → Walk K.group (From net f) (StepOf K net plan cost) v us t → reached ls v ≡ true
  walked v us t h w = elim (option_cases (label_at ls v).arrival) [ inl e ↦ absurd (z.unreached v h e us t w) | inr q ↦ rw q.1 refl ]

  uncrossed : Uncrossed net plan (paid (fee_worth K net plan cost) net plan) (reached_below ls (stations net))
  uncrossed u v c s h =
      let q = named_reached ls (stations net) u h in
      let x = there (label_at ls u).arrival q.1 in
      let e = ends net plan _ u v c s in
      reached_named ls (stations net) v e.1 (walked v _ _ e.1 (step (z.least u x.0 q.0 x.1).attained s))

  pub shows_cut : EndsBelow net → Fits net plan → ((v : ℕ) → v < stations net → reached ls v ≡ true → pos 0 ≤ℤ left_over net plan v) → (w : ℕ) → w < stations net → f w ≡ true → pos 0 <ℤ left_over net plan w
      → Cut net (reached_below ls (stations net))
  shows_cut e t h w k s p =
      is_cut net plan _ (reached_below ls (stations net)) e t (rising_distinct ls (stations net)) (below_rising ls (stations net)) uncrossed
      (λ v a. let q = named_reached ls (stations net) v a in h v q.0 q.1)
      w (reached_named ls (stations net) w k (walked w [] K.group.zero k (start (k, s)))) p
