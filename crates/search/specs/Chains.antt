-- Chains of the legs at each station.
--   unlinked   links that lead nowhere
--   links_at   links by the number of a station or a leg
--   link       the link of one direction
--   past       the number after that of a leg, 0 where there is none
--   On         a leg whose step of one direction begins at a station
--   Chained    chains that hold the legs below m
--   Threaded   chains that hold all legs
--   SameChains   both slices stay lent, and keep their lengths
--   put_next, put_forth, put_back   links after a leg was put at the head of its two chains
use Rattle.std.specs.Prelude.{◌≡◌, ℕ, suc, ◌<◌, ◌≤◌, List, length, None, Some, Option, slice_index_or, slice_set}
use Rattle.records.specs.declared.leg.Leg.{Leg}
use Rattle.network.specs.Nets.{Net}
use Rattle.plans.specs.declared.direction.Direction.{Direction}
use Rattle.plans.specs.declared.direction.Direction.TheVariants.{Forth, Back}
use Rattle.plans.specs.Plans.{stations, leg_at}
use Rattle.plans.specs.Residuals.{Joined, tail}
use Rattle.plans.specs.Slices.{SameSlice}
use Rattle.search.specs.declared.chains.Chains.{Chains}
use Rattle.search.specs.declared.chains.Links.{Links}

abbrev pub unlinked : Links
unlinked = record { forth = None; back = None }

abbrev pub links_at : List Links → ℕ → Links
links_at ts k = slice_index_or ts k unlinked

abbrev pub link : Direction → Links → Option ℕ
link Forth l = l.forth
link Back l = l.back

abbrev pub past : Option ℕ → ℕ
past None = 0
past (Some k) = suc k

-- a leg between stations
pub record On (net : Net) (d : Direction) (u k : ℕ) : Type 0 where
  pub joined : Joined net k
  pub begins : tail d (leg_at net k) ≡ u

-- no leg of a chain is above its head, and each link leads to the next one below
pub record Chained (net : Net) (m : ℕ) (heads nexts : List Links) : Type 0 where
  pub first : (d : Direction) (u j : ℕ) → j < m → On net d u j
      → j < past (link d (links_at heads u))
  pub head : (d : Direction) (u k : ℕ) → u < stations net → link d (links_at heads u) ≡ Some k
      → (k < m) × On net d u k
  pub next : (d : Direction) (u j k : ℕ) → j < k → k < m → On net d u j → On net d u k
      → j < past (link d (links_at nexts k))
  pub after : (d : Direction) (u k i : ℕ) → k < m → On net d u k
      → link d (links_at nexts k) ≡ Some i → (i < k) × On net d u i

-- of all legs, in tables that are long enough
pub record Threaded (net : Net) (heads nexts : List Links) : Type 0 where
  pub chains : Chained net (length net.legs) heads nexts
  pub heads_long : stations net ≤ length heads
  pub nexts_long : length net.legs ≤ length nexts

pub record SameChains (before after : Chains) : Type 0 where
  pub heads : SameSlice before.heads after.heads
  pub nexts : SameSlice before.nexts after.nexts

-- the leg k goes on to the heads of its chains
abbrev pub put_next : ℕ → Leg → List Links → List Links → List Links
put_next k l heads nexts =
    slice_set nexts k
    (record { forth = (links_at heads l.start).forth; back = (links_at heads l.end).back })

-- and is their head
abbrev pub put_forth : ℕ → Leg → List Links → List Links
put_forth k l heads =
    slice_set heads l.start (record { forth = Some k; back = (links_at heads l.start).back })

abbrev pub put_back : ℕ → Leg → List Links → List Links
put_back k l heads =
    slice_set heads l.end (record { forth = (links_at heads l.end).forth; back = Some k })
