-- Steps of a plan on a network as steps by their direction and leg, and the rounds over them.
use Rattle.std.proofs.Common.{◌≡◌, ℕ, suc, ◌+◌, ◌-◌, ◌<◌, ◌≤◌, Bool, true, false, List, ◌++◌, length, take, drop, length-take, ◌∙◌, subst, arith}
use Rattle.std.specs.Prelude.{max}
use Rattle.network.specs.Nets.{Net}
use Rattle.theory.specs.declared.Grouped.{Ghosts as Kind}
use Rattle.theory.specs.Walks.{Reached}
use Rattle.plans.specs.declared.direction.Direction.{Direction}
use Rattle.plans.specs.declared.direction.Direction.TheVariants.{Forth, Back}
use Rattle.plans.specs.Plans.{stations}
use Rattle.plans.specs.Residuals.{forward, backward}
use Rattle.plans.specs.Residuals as residuals
use Rattle.steps.specs.declared.load.Load.{Load}
use Rattle.steps.specs.declared.step.Step.{Step}
use Rattle.steps.specs.Loads.{Over}
use Rattle.search.specs.Searches.{From, StepOf, OverOf, Settles, Answer}
use Rattle.search.specs.Sweeps.{Sweeps}
use Rattle.search.specs.Rounds.{AfterOf, LateOf, Begins, Commits, RoundMore, Ends, Still}
use Rattle.search.specs.declared.label.Label.{Label}
use Rattle.search.specs.declared.outcome.Outcome.{Outcome}
use Rattle.search.specs.declared.outcome.Outcome.TheVariants.{Settled, RoundTrip}
use Rattle.search.proofs.Sweeping.{sweep_none}
use Rattle.search.proofs.Rounding.{round_more, round_still, round_late}
use Rattle.search.proofs.Ending.{settles, late_trip, after_none}
use Rattle.search.proofs.Writing.{begins_before}

module _ {A : Type 0} (net : Net) (plan : List ℕ) (cost : Direction → ℕ → A) where
  pub ends : (u v : ℕ) (c : A) → residuals.Step net plan cost u v c → (u < stations net) × (v < stations net)
  ends u v c (forward k j e f r q) = (rw e at j.start_below, rw f at j.end_below)
  ends u v c (backward k j e f r q) = (rw e at j.end_below, rw f at j.start_below)

  into_by : (d : Direction) (k u v : ℕ) (c : A) → Over net plan cost (record { direction = d; leg = k }) u v c → residuals.Step net plan cost u v c
  into_by Forth k u v c t = forward k t.joined t.begins t.ends (omega (arith, t.takes)) t.costs
  into_by Back k u v c t = backward k t.joined t.begins t.ends t.takes t.costs

  pub into : (s : Step) (u v : ℕ) (c : A) → Over net plan cost s u v c → residuals.Step net plan cost u v c
  into s u v c t = into_by s.direction s.leg u v c t

  pub out : (u v : ℕ) (c : A) → residuals.Step net plan cost u v c → (s : Step) × Over net plan cost s u v c
  out u v c (forward k j e f r q) = (record { direction = Forth; leg = k }, record { joined = j; begins = e; ends = f; takes = omega (arith, r); costs = q })
  out u v c (backward k j e f r q) = (record { direction = Back; leg = k }, record { joined = j; begins = e; ends = f; takes = r; costs = q })

module _ {C : Type 0} (K : Kind C) (size : C → ℕ) (net : Net) (plan : List ℕ) (cost : Direction → Load → C) (f : ℕ → Bool) where
  pub round_of : (r : Bool) (old mid new : List (Label C)) → Sweeps K size net plan cost (stations net) old mid → Commits (stations net) r mid new → RoundMore K size net plan cost f r old new
  round_of r old mid new sweep p k bound a =
      let s = sweep old (sweep_none K size (stations net) (OverOf K net plan cost) old a.calm (λ v x h e. omega (arith, a.small v x h e))) in (
        round_more K size (stations net) (From net f) (StepOf K net plan cost) (OverOf K net plan cost) (λ v q. q.0) (ends net plan _) (into net plan _) (out net plan _) k r old mid new a s.0 s.1 p,
        round_still K size (stations net) (From net f) (StepOf K net plan cost) (OverOf K net plan cost) (λ v q. q.0) (ends net plan _) (into net plan _) (out net plan _) k r old mid new a s.0 s.1 p,
        round_late K size (stations net) (From net f) (StepOf K net plan cost) (OverOf K net plan cost) (λ v q. q.0) (ends net plan _) (into net plan _) (out net plan _) k r old mid new a s.0 s.1 p,
        p.beyond ∙ s.0.beyond,
      )

  settled_of : (k : ℕ) (ls : List (Label C)) → AfterOf K size net plan cost f k ls → (1 ≤ stations net → k ≤ stations net) → Still (stations net) ls → Settles K (stations net) (From net f) (StepOf K net plan cost) (OverOf K net plan cost) ls
  settled_of k ls a few still = settles K size (stations net) (From net f) (StepOf K net plan cost) (OverOf K net plan cost) (ends net plan _) (into net plan _) k ls a few still

  late_of : (m : ℕ) → stations net ≡ suc m → LateOf K size net plan cost f (suc m) → Reached K.group (From net f) (StepOf K net plan cost)
  late_of m e l = late_trip K size (stations net) (From net f) (StepOf K net plan cost) (OverOf K net plan cost) (ends net plan _) (into net plan _) m e l

  pub begun_of : (old ls : List (Label C)) → Begins K size (stations net) f old ls → AfterOf K size net plan cost f 0 ls
  begun_of old ls b =
      after_none K size (stations net) (From net f) (StepOf K net plan cost) (OverOf K net plan cost) (ends net plan _) (into net plan _) f (λ v h q. (h, q)) (λ v q. q) old ls b

  -- the rounds from the first labels, which stand before the others
  pub ended_of : (r : Outcome) (n : ℕ) (labels ls after : List (Label C)) → n ≡ stations net → n ≤ length labels → length ls ≡ length (take n labels)
      → Begins K size (length (take n labels)) f (take n labels) ls → Ends K size net plan cost f r (ls ++ drop n labels) after
      → Answer K net plan cost f r after × (drop (stations net) after ≡ drop (stations net) labels)
  ended_of r n labels ls after e few long b ended =
      let first = ls ++ drop n labels in
      let b' : Begins K size (stations net) f labels first =
      subst (λ m. Begins K size m f labels first) e (begins_before n labels ls few (omega (arith, length-take n labels)) K size f b) in
      let p = ended (begun_of labels first b') in
      (p.0, p.1 ∙ b'.beyond)

  -- ---- the loop over rounds: after i of them, the last of which changed a label
  abbrev pub SoFar : ℕ → List (Label C) → List (Label C) → Type 0
  SoFar i old ls = AfterOf K size net plan cost f 0 old → AfterOf K size net plan cost f i ls × (0 < i → LateOf K size net plan cost f i) × (drop (stations net) ls ≡ drop (stations net) old)

  module _ (i : ℕ) (old ls : List (Label C)) (s : SoFar i old ls) where
    module _ (r : Bool) (after : List (Label C)) (few : i < 240) (more : RoundMore K size net plan cost f r ls after) where
      pub rounds_more : r ≡ true → SoFar (i + 1) old after
      rounds_more q a =
          let b = s a in
          let e = more i (omega arith) b.0 in
          let p : suc i ≡ i + 1 = omega arith in
          (subst (λ k. AfterOf K size net plan cost f k after) p e.0, λ _. subst (LateOf K size net plan cost f) p (e.2 q), e.3 ∙ b.2)

      pub rounds_settled : r ≡ false → (1 ≤ stations net → i < stations net) → Ends K size net plan cost f Settled old after
      rounds_settled q h a =
          let b = s a in
          let e = more i (omega arith) b.0 in
          (settled_of (suc i) after e.0 (λ z. omega (arith, h z)) (e.1 q), e.3 ∙ b.2)

    pub rounds_trip : i ≡ max (stations net) 1 → Ends K size net plan cost f RoundTrip old ls
    rounds_trip q a =
        let b = s a in
        let l = b.1 (omega arith) in
        let m : stations net ≡ suc (stations net - 1) = omega (arith, l.below) in
        let p : i ≡ suc (stations net - 1) = omega (arith, m) in
        (late_of (stations net - 1) m (subst (LateOf K size net plan cost f) p l), b.2)
