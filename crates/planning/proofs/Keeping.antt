-- Tables that stay the same slices, and so as long as they were.
pub use Rattle.plans.proofs.Lending.{same_slice, slice_twice}
use Rattle.planning.specs.declared.draft.Draft.{Draft}
use Rattle.planning.specs.Drafts.{SameDraft}
use Rattle.search.specs.declared.chains.Chains.{Chains}
use Rattle.search.specs.Chains.{SameChains}
use Rattle.simplex.specs.declared.tables.Tables.{Tables as Simplex}
use Rattle.simplex.specs.Tables.{SameTables as SameSimplex}
use Rattle.prices.specs.declared.queue.Queue.{Queue}
use Rattle.prices.specs.Queues.{SameQueue}
use Rattle.planning.specs.Tables.{SameTables}
use Rattle.planning.specs.declared.tables.Tables.{Tables}

pub draft_twice : {a b c : Draft} → SameDraft a b → SameDraft b c → SameDraft a c
draft_twice p q = record { amounts = slice_twice p.amounts q.amounts; left = slice_twice p.left q.left }

same_chains : (a : Chains) → SameChains a a
same_chains a = record { heads = same_slice a.heads; nexts = same_slice a.nexts }

chains_twice : {a b c : Chains} → SameChains a b → SameChains b c → SameChains a c
chains_twice p q = record { heads = slice_twice p.heads q.heads; nexts = slice_twice p.nexts q.nexts }

same_simplex : (a : Simplex) → SameSimplex a a
same_simplex a = record { lower = same_slice a.lower; upper = same_slice a.upper; nodes = same_slice a.nodes; potentials = same_slice a.potentials; best = same_slice a.best }

simplex_twice : {a b c : Simplex} → SameSimplex a b → SameSimplex b c → SameSimplex a c
simplex_twice p q =
    record {
      lower = slice_twice p.lower q.lower;
      upper = slice_twice p.upper q.upper;
      nodes = slice_twice p.nodes q.nodes;
      potentials = slice_twice p.potentials q.potentials;
      best = slice_twice p.best q.best;
    }

same_queue : (a : Queue) → SameQueue a a
same_queue a = record { heap = same_slice a.heap; places = same_slice a.places }

queue_twice : {a b c : Queue} → SameQueue a b → SameQueue b c → SameQueue a c
queue_twice p q = record { heap = slice_twice p.heap q.heap; places = slice_twice p.places q.places }

pub same_tables : (a : Tables) → SameTables a a
same_tables a =
    record {
      draft = record { amounts = same_slice a.draft.amounts; left = same_slice a.draft.left };
      potentials = same_slice a.potentials;
      simplex = same_simplex a.simplex;
      labels = same_slice a.labels;
      cents = same_slice a.cents;
      chains = same_chains a.chains;
      marks = same_slice a.marks;
      queue = same_queue a.queue;
    }

pub same_twice : {a b c : Tables} → SameTables a b → SameTables b c → SameTables a c
same_twice p q =
    record {
      draft = draft_twice p.draft q.draft;
      potentials = slice_twice p.potentials q.potentials;
      simplex = simplex_twice p.simplex q.simplex;
      labels = slice_twice p.labels q.labels;
      cents = slice_twice p.cents q.cents;
      chains = chains_twice p.chains q.chains;
      marks = slice_twice p.marks q.marks;
      queue = queue_twice p.queue q.queue;
    }
