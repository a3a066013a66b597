-- What a sending comes to, by the labels and by what the draft held before.
--   Contents         what a draft holds
--   contents_of      the contents of a draft
--   is_joined        whether a leg is there and leads between stations
--   is_tight         whether two totals differ by the cost of a step
--   sight_at, sight_of, sight_by, sight_over   what the label of a station shows: a start, or a last step that may be taken
--   reach_from, reach_by   the start that last steps lead back to, and the room along them
--   reach_of         the same of all last steps back from a station
--   spare            the bikes that a left over has to give, at most so many
--   bikes_sent, bikes_along   how many bikes a sending takes to a station
--   contents_after, contents_along   the contents of a draft after a sending
--   CanSend          a number of bikes that can be sent to a station
--   IsMostSendable   the largest such number, or 0 where there is none
use Rattle.std.specs.Prelude.{ℕ, zero, suc, ◌+◌, ◌^◌, ◌<◌, ◌≤◌, min, Bool, ◌&&◌, List, length, ℤ, pos, ◌+ℤ◌, neg_ℤ, Some, None, Option, ◌==◌, nat_lt, slice_index_or, if◌then◌else◌}
use Rattle.std.specs.Ordering.{int_eq}
use Rattle.network.specs.Nets.{Net}
use Rattle.plans.specs.Plans.{stations, leg_at}
use Rattle.plans.specs.Residuals.{tail, head}
use Rattle.certificates.specs.Totals.{over}
use Rattle.planning.specs.Drafts.{left_after_move}
use Rattle.planning.specs.declared.draft.Draft.{Draft}
use Rattle.steps.specs.declared.step.Step.{Step}
use Rattle.search.specs.Labels.{label_at}
use Rattle.search.specs.declared.label.Arrival.{Arrival}
use Rattle.search.specs.declared.label.Label.{Label}
use Rattle.planning.specs.declared.routes.Sight.{Sight}
use Rattle.planning.specs.declared.routes.Sight.TheVariants.{Begun, Came}
use Rattle.planning.specs.declared.routes.Reach.{Reach}
use Rattle.planning.specs.Sends.{Both}
use Rattle.planning.specs.Routes.{Route, room_along, step_cost, pushed_along}

-- the amounts of the legs, and what is left over at the stations
pub record Contents : Type 0 where
  pub amounts : List ℕ
  pub left : List ℤ

abbrev pub contents_of : Draft → Contents
contents_of draft = record { amounts = draft.amounts.now; left = draft.left.now }

abbrev pub is_joined : Net → ℕ → Bool
is_joined net k = nat_lt k (length net.legs) && nat_lt (leg_at net k).start (stations net) && nat_lt (leg_at net k).end (stations net)

-- the first is the second and the cost together
abbrev pub is_tight : Both → Both → ℤ × ℤ → Bool
is_tight total before cost = int_eq total.first.0 (before.first.0 +ℤ cost.0) && int_eq total.second.0 (before.second.0 +ℤ cost.1)

-- what is left over less than 0 gives nothing
abbrev pub spare : ℕ → ℤ → ℕ
spare most left = min most (over left)

-- from v on, where there is room for so many bikes up to v; `more` follows the steps before
abbrev pub reach_by : (ℕ → ℕ → Option Reach) → ℕ → ℕ → Option Sight → Option Reach
reach_by more v room None = None
reach_by more v room (Some Begun) = Some (record { start = v; room = room })
reach_by more v room (Some (Came u less)) = more u (min room less)

-- the lesser of the room along the steps, what the start has over and what the target lacks
abbrev pub bikes_along : List ℤ → ℕ → Option Reach → ℕ
bikes_along left target None = 0
bikes_along left target (Some reach) = spare (spare reach.room (slice_index_or left reach.start (pos 0))) (neg_ℤ (slice_index_or left target (pos 0)))

module _ (net : Net) (standing : List ℕ) (ls : List (Label Both)) where
  -- a last step s into v, by the total of v and the label of the station where s begins: it may be taken if it leads there, has
  -- room for a bike and has the cost that it had in the search
  abbrev pub sight_over : List ℕ → ℕ → Both → Step → Option (Arrival Both) → Option Sight
  sight_over plan v total s None = None
  sight_over plan v total s (Some before) =
      if is_joined net s.leg && (head s.direction (leg_at net s.leg) == v) && nat_lt 0 (room_along net standing plan s) && is_tight total before.total (step_cost net standing plan s)
      then Some (Came (tail s.direction (leg_at net s.leg)) (room_along net standing plan s))
      else None

  abbrev pub sight_by : List ℕ → ℕ → Both → Option Step → Option Sight
  sight_by plan v total None = Some Begun
  sight_by plan v total (Some s) = sight_over plan v total s (label_at ls (tail s.direction (leg_at net s.leg))).arrival

  abbrev pub sight_of : List ℕ → ℕ → Option (Arrival Both) → Option Sight
  sight_of plan v None = None
  sight_of plan v (Some x) = sight_by plan v x.total x.last

  abbrev pub sight_at : List ℕ → ℕ → Option Sight
  sight_at plan v = if nat_lt v (stations net) then sight_of plan v (label_at ls v).arrival else None

  -- over fewer than `fuel` steps: last steps may lead in a circle
  abbrev pub reach_from : List ℕ → ℕ → ℕ → ℕ → Option Reach
  reach_from plan zero v room = None
  reach_from plan (suc fuel) v room = reach_by (reach_from plan fuel) v room (sight_at plan v)

  -- no leg has room for more bikes than an amount can be
  abbrev pub reach_of : List ℕ → ℕ → Option Reach
  reach_of plan target = reach_from plan (stations net + 1) target 65535

  abbrev pub bikes_sent : ℕ → Contents → ℕ
  bikes_sent target held = bikes_along held.left target (reach_of held.amounts target)

  -- so many bikes less are left over at the start, and more at the target
  abbrev pub contents_along : ℕ → ℕ → Contents → Option Reach → Contents
  contents_along target bikes held None = held
  contents_along target zero held (Some reach) = held
  contents_along target (suc b) held (Some reach) =
      record {
        amounts = pushed_along net ls (suc b) (stations net + 1) target held.amounts;
        left = left_after_move reach.start target (suc b) held.left;
      }

  abbrev pub contents_after : ℕ → Contents → Contents
  contents_after target held = contents_along target (bikes_sent target held) held (reach_of held.amounts target)

  -- every last step back from the target has room for them, the start has them over, and the target lacks them; no step has room
  -- for more than an amount can be
  pub record CanSend (target bikes : ℕ) (held : Contents) : Type 0 where
    pub few : bikes < 2 ^ 16
    pub start : ℕ
    pub route : Route net standing held.amounts ls bikes target start
    pub start_has : bikes ≤ over (slice_index_or held.left start (pos 0))
    pub target_lacks : bikes ≤ over (neg_ℤ (slice_index_or held.left target (pos 0)))

  pub record IsMostSendable (target bikes : ℕ) (held : Contents) : Type 0 where
    pub can : 0 < bikes → CanSend target bikes held
    pub most : (more : ℕ) → CanSend target more held → more ≤ bikes
