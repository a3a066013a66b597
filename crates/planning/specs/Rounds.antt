-- Sendings to several stations, one after another.
--   is_at_most       whether a total is at most another
--   lower_of         of two stations the one with the lower label, the first of equal ones
--   waiting_of, lacking_by   a station with the total of its label, if it lacks bikes, is labelled and is not marked
--   waiting_all      all such stations, by rising number
--   nearest_of       the station with the lowest label, of those that lack bikes and are not marked
--   Waits            a station that lacks bikes, is labelled and is not marked
--   IsNearest        the waiting station with the lowest label, of equal ones the first by number
--   FindsNearest     that station, or none where no station waits
--   Sendings         how many bikes are over, and what the draft holds, after some sendings
--   sendings_of      the same of a number and a draft
--   after_sending    the same after one sending more
--   after_all        after a sending to each station below a number
--   after_nearest, after_next   after sendings to the nearest first, in at most so many turns
--   after_round, after_round_by   after a round: to the nearest first, and where that moves none, to each station
use Rattle.std.specs.Prelude.{◌≡◌, ℕ, zero, suc, ◌-◌, ◌≤◌, Bool, true, false, not, ◌&&◌, ◌||◌, List, take, ℤ, pos, ◌<ℤ◌, Some, None, Option, int_lt, nat_lt, slice_index_or, slice_set, if◌then◌else◌}
use Rattle.std.specs.List.{enumerate_from, filter_map, reduce, zip}
use Rattle.std.specs.Option.{option_map}
use Rattle.std.specs.Ordering.{int_eq}
use Rattle.network.specs.Nets.{Net}
use Rattle.costs.specs.Kinds.{both_kind}
use Rattle.plans.specs.Plans.{stations}
use Rattle.plans.specs.Residuals.{both_group}
use Rattle.planning.specs.declared.draft.Draft.{Draft}
use Rattle.search.specs.declared.label.Arrival.{Arrival}
use Rattle.search.specs.declared.label.Label.{Label}
use Rattle.planning.specs.Sends.{Both, Known}
use Rattle.planning.specs.Sendable.{Contents, contents_of, bikes_sent, contents_after}
use Rattle.planning.specs.declared.sendings.Lacking.{Lacking}

-- cents decide, and bikes of difference between equal cents
abbrev pub is_at_most : Both → Both → Bool
is_at_most one other = int_lt one.first.0 other.first.0 || (int_eq one.first.0 other.first.0 && not (int_lt other.second.0 one.second.0))

abbrev pub lower_of : Lacking → Lacking → Lacking
lower_of one other = if is_at_most one.total other.total then one else other

abbrev pub lacking_by : ℕ → Option (Arrival Both) → Option Lacking
lacking_by v None = None
lacking_by v (Some x) = Some (record { station = v; total = x.total })

-- by its number, its label, what is left over there, and its mark
abbrev pub waiting_of : ℕ → Label Both → ℤ → Bool → Option Lacking
waiting_of v label left marked = if int_lt left (pos 0) && not marked then lacking_by v label.arrival else None

abbrev pub waiting_all : List (Label Both) → List ℤ → List Bool → List Lacking
waiting_all ls left marks = filter_map (λ e. waiting_of e.0 e.1.0.0 e.1.0.1 e.1.1) (enumerate_from 0 (zip (zip ls left) marks))

abbrev pub nearest_of : List (Label Both) → List ℤ → List Bool → Option ℕ
nearest_of ls left marks = option_map (λ c. c.station) (reduce lower_of (waiting_all ls left marks))

-- a station with no mark does not wait
pub record Waits (ls : List (Label Both)) (left : List ℤ) (marks : List Bool) (v : ℕ) (x : Arrival Both) : Type 0 where
  pub labelled : Known ls v x
  pub lacks : slice_index_or left v (pos 0) <ℤ pos 0
  pub unmarked : slice_index_or marks v true ≡ false

pub record IsNearest (ls : List (Label Both)) (left : List ℤ) (marks : List Bool) (v : ℕ) : Type 0 where
  pub arrival : Arrival Both
  pub waits : Waits ls left marks v arrival
  pub lowest : (w : ℕ) (y : Arrival Both) → Waits ls left marks w y
      → both_group.le (both_kind.worth arrival.total) (both_kind.worth y.total)
  pub first : (w : ℕ) (y : Arrival Both) → Waits ls left marks w y
      → both_kind.worth y.total ≡ both_kind.worth arrival.total → v ≤ w

abbrev pub FindsNearest : List (Label Both) → List ℤ → List Bool → Option ℕ → Type 0
FindsNearest ls left marks None = (v : ℕ) (x : Arrival Both) → Waits ls left marks v x → ⊥
FindsNearest ls left marks (Some v) = IsNearest ls left marks v

pub record Sendings : Type 0 where
  pub over : ℕ
  pub held : Contents

abbrev pub sendings_of : ℕ → Draft → Sendings
sendings_of over draft = record { over = over; held = contents_of draft }

module _ (net : Net) (standing : List ℕ) (ls : List (Label Both)) where
  abbrev pub after_sending : ℕ → Sendings → Sendings
  after_sending v s =
      record {
        over = s.over - bikes_sent net standing ls v s.held;
        held = contents_after net standing ls v s.held;
      }

  abbrev pub after_all : ℕ → Sendings → Sendings
  after_all zero s = s
  after_all (suc v) s = after_sending v (after_all v s)

  -- to the nearest station, if there is one, which is marked; `more` goes on to the others
  abbrev pub after_next : (List Bool → Sendings → Sendings) → List Bool → Sendings → Option ℕ → Sendings
  after_next more marks s None = s
  after_next more marks s (Some v) = more (slice_set marks v true) (after_sending v s)

  abbrev pub after_nearest : ℕ → List Bool → Sendings → Sendings
  after_nearest zero marks s = s
  after_nearest (suc turns) marks s =
      after_next (after_nearest turns) marks s (nearest_of (take (stations net) ls) s.held.left marks)

  -- by what the sendings to the nearest came to
  abbrev pub after_round_by : ℕ → Sendings → Sendings
  after_round_by over near =
      if nat_lt near.over over then near else after_all (stations net) (record { over = over; held = near.held })

  abbrev pub after_round : List Bool → Sendings → Sendings
  after_round marks s = after_round_by s.over (after_nearest (stations net) marks s)
