-- What a planner by repeated cheapest walks rests on.
--   PushKeepsCertificate   bikes sent along a tight step leave the certificate as it is
--   PushMovesEnds          bikes sent along a step leave a plan that fits, and change only what is left over at its ends
--   RoomsSuffice           a step has room for a bike, and as many as it has room for may go along it
--   PushesJoin             bikes sent from one station to a second and from there to a third are sent from the first to the third
--   PushLowersOver         bikes sent from a station that has them over to one that lacks them are over no more
--   NoRoundTrip            a certificate excludes round trips that total below zero, in pairs of cents and bikes
--   LabelsExtend           where there is a certificate, labels that no step undercuts on the reached stations, which no step leaves,
--                          are part of one
--   MendedIsCertified      the plan made of a guess and a potential fits, and the potential certifies it
--   MendKeepsCertified     amounts that fit and that the potential certifies stay as they were guessed
--   FirstIsCertified       the plan to start from fits, and the potential that is zero everywhere certifies it
--   LevelMendIsFirst       by the potential that is zero everywhere, each guess is mended to the plan to start from
--   NothingLeftObeys       a plan that fits and leaves nothing over obeys
--   BalancesTotal          the sum of the balances by number is that of their list
--   LeftOversSum           where legs join stations, what a plan that fits leaves over sums to what the balances sum to
--   NoneOverObeys          where legs join stations and the balances sum to 0, a plan that fits and leaves no bikes over
--                          anywhere obeys
use Rattle.std.specs.Prelude.{◌≡◌, ℕ, ◌+◌, ◌<◌, ◌≤◌, Bool, true, List, length, ℤ, pos, ◌+ℤ◌, ◌≤ℤ◌, fold, ◌≢◌, ◌↔◌}
use Rattle.network.specs.Nets.{Net}
use Rattle.plans.specs.Plans.{stations, leg_at, amount, balance_at, Fits, Obeys, EndsBelow}
use Rattle.plans.specs.declared.direction.Direction.{Direction}
use Rattle.plans.specs.Residuals.{Joined, tail, head, residual, step_both, BothStep, both_group, Certifies}
use Rattle.plans.specs.Prices.{BothRoundTrip}
use Rattle.plans.specs.Cuts.{left_over}
use Rattle.certificates.specs.Pushes.{shifted, SendsAlong, room_over, Sent}
use Rattle.certificates.specs.Starts.{First, first_plan, level}
use Rattle.certificates.specs.Mends.{Mended, mended_plan}
use Rattle.certificates.specs.Totals.{total_below, all_over}

abbrev pub PushKeepsCertificate : Type 0
PushKeepsCertificate =
    (d : Direction) (net : Net) (standing plan : List ℕ) (π : ℕ → ℤ × ℤ) (k b : ℕ) → Certifies net standing plan π → SendsAlong d net standing plan k b
    → (0 < b → π (head d (leg_at net k)) ≡ both_group.add (π (tail d (leg_at net k))) (step_both net standing plan d k)) → Certifies net standing (shifted d plan k b) π

-- a leg that leads from a station to the same one changes nothing
abbrev pub PushMovesEnds : Type 0
PushMovesEnds =
    (d : Direction) (net : Net) (plan : List ℕ) (k b : ℕ) → Fits net plan → k < length net.legs → b ≤ residual d (leg_at net k) (amount plan k)
    → Sent net plan (shifted d plan k b) b (tail d (leg_at net k)) (head d (leg_at net k))

-- in a plan that fits
abbrev pub RoomsSuffice : Type 0
RoomsSuffice =
    (d : Direction) (net : Net) (standing plan : List ℕ) (k : ℕ) → Fits net plan → Joined net k
    → (0 < residual d (leg_at net k) (amount plan k) → 0 < room_over d net standing plan k) × ((b : ℕ) → b ≤ room_over d net standing plan k → SendsAlong d net standing plan k b)

-- no push at all; the earlier part of the way first; the later part first
abbrev pub PushesJoin : Type 0
PushesJoin =
    (net : Net) (plan : List ℕ) (b u v w : ℕ)
    → (Fits net plan → Sent net plan plan b u u)
    × ((mid after : List ℕ) → Sent net plan mid b u v → Sent net mid after b v w → Sent net plan after b u w)
    × ((mid after : List ℕ) → Sent net plan mid b v w → Sent net mid after b u v → Sent net plan after b u w)

abbrev pub PushLowersOver : Type 0
PushLowersOver =
    (net : Net) (plan after : List ℕ) (b u v : ℕ) → Sent net plan after b u v → u < stations net → (u ≢ v) → pos b ≤ℤ left_over net plan u → (left_over net plan v +ℤ pos b) ≤ℤ pos 0
    → all_over net after + b ≡ all_over net plan

abbrev pub NoRoundTrip : Type 0
NoRoundTrip = (net : Net) (standing plan : List ℕ) (π : ℕ → ℤ × ℤ) → Certifies net standing plan π → BothRoundTrip net standing plan → ⊥

-- r tells the reached stations, and d v is the label of v
abbrev pub LabelsExtend : Type 0
LabelsExtend =
    (net : Net) (standing plan : List ℕ) (π : ℕ → ℤ × ℤ) (r : ℕ → Bool) (d : ℕ → ℤ × ℤ) → Certifies net standing plan π
    → ((u v : ℕ) (c : ℤ × ℤ) → BothStep net standing plan u v c → r u ≡ true → (r v ≡ true) × both_group.le (d v) (both_group.add (d u) c))
    → (π' : ℕ → ℤ × ℤ) × Certifies net standing plan π' × ((v : ℕ) → r v ≡ true → π' v ≡ d v)

-- the list is such a plan; then what holds of every such plan
abbrev pub MendedIsCertified : Type 0
MendedIsCertified =
    (net : Net) (standing guess : List ℕ) (π : ℕ → ℤ × ℤ)
    → Mended net standing guess π (mended_plan net standing guess π) × ((plan : List ℕ) → Mended net standing guess π plan → Fits net plan × Certifies net standing plan π)

-- on a leg with an end that is no station, which gives no step, the guessed amount may change
abbrev pub MendKeepsCertified : Type 0
MendKeepsCertified =
    (net : Net) (standing guess plan : List ℕ) (π : ℕ → ℤ × ℤ) → Fits net guess → Certifies net standing guess π → Mended net standing guess π plan
    → (k : ℕ) → Joined net k → amount plan k ≡ amount guess k

-- the list is such a plan; then what holds of every such plan
abbrev pub FirstIsCertified : Type 0
FirstIsCertified = (net : Net) (standing : List ℕ) → First net standing (first_plan net standing) × ((plan : List ℕ) → First net standing plan → Fits net plan × Certifies net standing plan level)

abbrev pub LevelMendIsFirst : Type 0
LevelMendIsFirst = (net : Net) (standing guess plan : List ℕ) → Mended net standing guess level plan ↔ First net standing plan

abbrev pub NothingLeftObeys : Type 0
NothingLeftObeys = (net : Net) (plan : List ℕ) → Fits net plan → ((v : ℕ) → v < stations net → left_over net plan v ≡ pos 0) → Obeys net plan

abbrev pub BalancesTotal : Type 0
BalancesTotal = (net : Net) → total_below (stations net) (balance_at net) ≡ fold ◌+ℤ◌ (pos 0) net.balances

-- under any plan that fits, if legs join stations, all stations together have left over what their balances sum to
abbrev pub LeftOversSum : Type 0
LeftOversSum = (net : Net) (plan : List ℕ) → EndsBelow net → Fits net plan → total_below (stations net) (left_over net plan) ≡ total_below (stations net) (balance_at net)

abbrev pub NoneOverObeys : Type 0
NoneOverObeys = (net : Net) (plan : List ℕ) → EndsBelow net → Fits net plan → total_below (stations net) (balance_at net) ≡ pos 0 → ((v : ℕ) → v < stations net → left_over net plan v ≤ℤ pos 0) → Obeys net plan
