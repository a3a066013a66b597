-- The working tables of a planning.
--   shortest     the lowest of some numbers
--   station_lengths, leg_lengths   how long the tables for stations and those for legs are
--   lengths_of   how long the slices and the tables are
--   SameTables   all tables stay lent, and keep their lengths
use Rattle.std.specs.Prelude.{ℕ, min, List, [], ◌∷◌, length, fold, ℤ}
use Rattle.plans.specs.Slices.{SameSlice}
use Rattle.planning_rules.specs.declared.lengths.Lengths.{Lengths}
use Rattle.search.specs.Chains.{SameChains}
use Rattle.simplex.specs.Tables.{SameTables as SameSimplex}
use Rattle.prices.specs.Queues.{SameQueue}
use Rattle.planning.specs.Drafts.{SameDraft}
use Rattle.planning.specs.declared.tables.Tables.{Tables}

abbrev pub shortest : List ℕ → ℕ
shortest [] = 0
shortest (n ∷ ns) = fold min n ns

-- one entry for each station
abbrev pub station_lengths : Tables → List ℕ
station_lengths t =
    length t.draft.left.now
    ∷ length t.potentials.now
    ∷ length t.simplex.nodes.now
    ∷ length t.simplex.potentials.now
    ∷ length t.simplex.best.now
    ∷ length t.marks.now
    ∷ length t.labels.now
    ∷ length t.cents.now
    ∷ length t.chains.heads.now
    ∷ length t.queue.heap.now
    ∷ length t.queue.places.now
    ∷ []

-- one entry for each leg
abbrev pub leg_lengths : Tables → List ℕ
leg_lengths t = length t.draft.amounts.now ∷ length t.simplex.lower.now ∷ length t.simplex.upper.now ∷ length t.chains.nexts.now ∷ []

-- the working tables count by the shortest of their kind
abbrev pub lengths_of : List ℤ → List ℕ → Tables → Lengths
lengths_of prices cut tables =
    record {
      prices = length prices;
      cut = length cut;
      station_entries = shortest (station_lengths tables);
      leg_entries = shortest (leg_lengths tables);
    }

pub record SameTables (before after : Tables) : Type 0 where
  pub draft : SameDraft before.draft after.draft
  pub potentials : SameSlice before.potentials after.potentials
  pub simplex : SameSimplex before.simplex after.simplex
  pub marks : SameSlice before.marks after.marks
  pub labels : SameSlice before.labels after.labels
  pub cents : SameSlice before.cents after.cents
  pub chains : SameChains before.chains after.chains
  pub queue : SameQueue before.queue after.queue
