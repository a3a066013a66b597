-- The steps of a chain, and of all stations.
use Rattle.std.proofs.Common.{ℕ, suc, ◌+◌, List, length, inl, inr, arith}
use native.Mathlib.Decide.{ℕ_discrete}
use Rattle.std.proofs.lemmas.Bool.{cases_lt}
use Rattle.network.specs.Nets.{Net}
use Rattle.theory.specs.declared.Grouped.{Ghosts as Kind}
use Rattle.plans.specs.declared.direction.Direction.{Direction}
use Rattle.steps.specs.declared.load.Load.{Load}
use Rattle.search.specs.Sweeps.{Relaxes, Walks, Visits, Sweeps}
use Rattle.search.specs.declared.label.Label.{Label}
use Rattle.search.specs.Chains.{link, links_at, past, On, Chained}
use Rattle.search.specs.declared.chains.Links.{Links}

module _ {C : Type 0} (K : Kind C) (size : C → ℕ) (net : Net) (plan : List ℕ) (cost : Direction → Load → C) where
  module _ (heads nexts : List Links) (chains : Chained net (length net.legs) heads nexts) (d : Direction) (u : ℕ) (total : C) where
    -- no leg is above the head
    pub walk_none : (a : List (Label C)) → Walks K size net plan cost d u total (past (link d (links_at heads u))) a a
    walk_none a old h s =
        (s, λ v t q. q, λ j q v c t. absurd (omega (arith, chains.first d u j t.joined.there (record { joined = t.joined; begins = t.begins }))))

    -- no leg is between one and the next
    pub walk_more : (k : ℕ) (a b c : List (Label C)) → On net d u k → Walks K size net plan cost d u total (suc k) a b → Relaxes K size net plan cost (record { direction = d; leg = k }) total b c
        → Walks K size net plan cost d u total (past (link d (links_at nexts k))) a c
    walk_more k a b c on walked relaxed old h s =
        let p = walked old h s in
        let q = relaxed old (rw on.begins h) p.0 in (
          q.0,
          λ v t z. q.1 v t (p.1 v t z),
          λ j i v z t. elim (ℕ_discrete j k) [
            | yes e ↦ q.2 v z (rw (on.begins, ← e) t)
            | no m ↦ elim (cases_lt j k) [
              | inl l ↦ absurd (omega (arith, chains.next d u j k l on.joined.there (record { joined = t.joined; begins = t.begins }) on))
              | inr l ↦ q.1 v _ (p.2 j (omega arith) v z t)
            ]
          ],
        )

  -- ---- all stations
  pub sweeps_more : (i : ℕ) (a b c : List (Label C)) → Sweeps K size net plan cost i a b → Visits K size net plan cost i b c → Sweeps K size net plan cost (i + 1) a c
  sweeps_more i a b c swept visits old s =
      let p = swept old s in
      let q = visits old p.0 in
      (q.0, λ u h. elim (ℕ_discrete u i) [ yes e ↦ rw e q.2 | no k ↦ λ l y m n v z t. q.1 v _ (p.1 u (omega arith) l y m n v z t) ])
