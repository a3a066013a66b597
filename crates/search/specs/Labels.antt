-- What labels say.
--   unlabelled   a label of which nothing is known
--   label_at     the label of a station
--   held         the worth of an arrival, if there is one
--   best         the worth of what a label has found or holds
--   fresh, fresh_of   the total of a label that the round before changed, and of its two parts
--   committed, committed_by   a label at the end of a round, and of its two parts
--   with_better  a label with what the round has found
--   begun        a label before the first round
--   last_of, last_at   the last step of an arrival, and of the label of a station, if there is any
use Rattle.std.specs.Prelude.{ℕ, Bool, true, false, List, Some, None, Option, slice_index_or}
use Rattle.std.specs.Option.{option_or}
use Rattle.theory.specs.declared.Grouped.{Ghosts as Kind}
use Rattle.steps.specs.declared.step.Step.{Step}
use Rattle.search.specs.declared.label.Arrival.{Arrival}
use Rattle.search.specs.declared.label.Label.{Label}

abbrev pub unlabelled : {C : Type 0} → Label C
unlabelled = record { arrival = None; better = None; changed = false }

abbrev pub label_at : {C : Type 0} → List (Label C) → ℕ → Label C
label_at ls v = slice_index_or ls v unlabelled

abbrev pub held : {C : Type 0} (K : Kind C) → Option (Arrival C) → Option K.Member
held K None = None
held K (Some x) = Some (K.worth x.total)

-- what the round has found is lower than what the label holds
abbrev pub best : {C : Type 0} (K : Kind C) → Label C → Option K.Member
best K l = held K (option_or l.better l.arrival)

-- of the mark and the arrival of a label
abbrev pub fresh_of : {C : Type 0} → Bool → Option (Arrival C) → Option C
fresh_of false o = None
fresh_of true None = None
fresh_of true (Some x) = Some x.total

abbrev pub fresh : {C : Type 0} → Label C → Option C
fresh l = fresh_of l.changed l.arrival

-- by what the round has found
abbrev pub committed_by : {C : Type 0} → Option (Arrival C) → Option (Arrival C) → Label C
committed_by None o = record { arrival = o; better = None; changed = false }
committed_by (Some x) o = record { arrival = Some x; better = None; changed = true }

abbrev pub committed : {C : Type 0} → Label C → Label C
committed l = committed_by l.better l.arrival

-- with what the round has found
abbrev pub with_better : {C : Type 0} → Label C → Arrival C → Label C
with_better l x = record { arrival = l.arrival; better = Some x; changed = l.changed }

-- by whether a walk may start there, and a zero
abbrev pub begun : {C : Type 0} → Bool → C → Label C
begun false z = unlabelled
begun true z = record {
  arrival = Some (record { total = z; last = None });
  better = None;
  changed = true;
}

-- none of a walk without steps
abbrev pub last_of : {C : Type 0} → Option (Arrival C) → Option Step
last_of None = None
last_of (Some x) = x.last

abbrev pub last_at : {C : Type 0} → List (Label C) → ℕ → Option Step
last_at ls v = last_of (label_at ls v).arrival
