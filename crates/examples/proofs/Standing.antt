-- Of a standing plan only the amounts on the legs count.
use Rattle.std.proofs.Common.{◌≡◌, ℕ, List, length, sym, ap, ◌∙◌}
use Rattle.network.specs.Nets.{Net}
use Rattle.plans.specs.Plans.{amount, apart, difference, SameAmounts, CheapestThenNearest}
use Rattle.plans.proofs.Sums.{sum_same}
use Rattle.examples.specs.Examples.{OnlyBest}

pub same_difference : (net : Net) (standing other plan : List ℕ) → SameAmounts net standing other → difference net standing plan ≡ difference net other plan
same_difference net standing other plan h = sum_same (length net.legs) (λ k. apart (amount plan k) (amount standing k)) (λ k. apart (amount plan k) (amount other k)) (λ k l. ap (apart (amount plan k)) (h k l))

pub best_alike : (net : Net) (standing other plan : List ℕ) → SameAmounts net standing other → CheapestThenNearest net standing plan → CheapestThenNearest net other plan
best_alike net standing other plan h r =
    record {
      obeys = r.obeys;
      cheapest = r.cheapest;
      nearest = λ q o e. rw (← (same_difference net standing other plan h), ← (same_difference net standing other q h)) (r.nearest q o e);
    }

pub only_alike : (net : Net) (standing other plan : List ℕ) (c d : ℕ) → SameAmounts net standing other → OnlyBest net standing plan c d → OnlyBest net other plan c d
only_alike net standing other plan c d h b =
    record {
      exactly = λ p. (λ r. (b.exactly p).0 (best_alike net other standing p (λ k l. sym (h k l)) r), λ e. best_alike net standing other p h ((b.exactly p).1 e));
      costs = b.costs;
      differs = sym (same_difference net standing other plan h) ∙ b.differs;
    }
