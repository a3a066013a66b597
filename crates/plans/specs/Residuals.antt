-- The residual network of a plan: which steps the legs give, and what they cost.
--   Joined       a leg that is there, between stations
--   tail, head   the stations where a step over a leg begins and ends
--   residual     how many bikes can go along a step, by what the leg carries
--   Step         a residual step
--   step_cents   the cents of a step
--   step_bikes   the bikes of difference of a step
--   step_both    both
--   CentsStep    a step at its cents
--   BothStep     a step at its cents and its bikes of difference
--   both_group   pairs of cents and bikes, where bikes decide only between equal cents
--   Certifies    a potential that no step undercuts
use Rattle.std.specs.Prelude.{◌≡◌, ℕ, ◌-◌, ◌<◌, cond, List, length, ℤ, pos, negsuc, neg_ℤ, nat_le, nat_lt}
use Rattle.records.specs.declared.leg.Leg.{Leg}
use Rattle.network.specs.Nets.{Net}
use Rattle.theory.specs.Groups.{OrderedGroup, whole, paired}
use Rattle.plans.specs.declared.direction.Direction.{Direction}
use Rattle.plans.specs.declared.direction.Direction.TheVariants.{Forth, Back}
use Rattle.plans.specs.Plans.{stations, leg_at, amount, in_force}

-- a leg that is there, with both ends below n
pub record Joined (net : Net) (k : ℕ) : Type 0 where
  pub there : k < length net.legs
  pub start_below : (leg_at net k).start < stations net
  pub end_below : (leg_at net k).end < stations net

abbrev pub tail : Direction → Leg → ℕ
tail Forth l = l.start
tail Back l = l.end

abbrev pub head : Direction → Leg → ℕ
head Forth l = l.end
head Back l = l.start

-- the capacity in force that is left, or what the leg carries
abbrev pub residual : Direction → Leg → ℕ → ℕ
residual Forth l x = in_force l - x
residual Back l x = x

-- from u to v at the cost c, by a leg with capacity in force left, or back along a leg that carries bikes
pub data Step {A : Type 0} (net : Net) (plan : List ℕ) (cost : Direction → ℕ → A) (u v : ℕ) (c : A) : Type 0 where
  forward : (k : ℕ) → Joined net k → (leg_at net k).start ≡ u → (leg_at net k).end ≡ v → amount plan k < in_force (leg_at net k) → c ≡ cost Forth k → Step net plan cost u v c
  backward : (k : ℕ) → Joined net k → (leg_at net k).end ≡ u → (leg_at net k).start ≡ v → 0 < amount plan k → c ≡ cost Back k → Step net plan cost u v c

-- the charge forth, the negated charge back
abbrev pub step_cents : Net → Direction → ℕ → ℤ
step_cents net Forth k = pos (leg_at net k).charge
step_cents net Back k = neg_ℤ (pos (leg_at net k).charge)

-- -1 where the amount moves towards the standing amount, 1 where it moves away
abbrev pub step_bikes : List ℕ → List ℕ → Direction → ℕ → ℤ
step_bikes standing plan Forth k = cond (nat_le (amount standing k) (amount plan k)) (pos 1) (negsuc 0)
step_bikes standing plan Back k = cond (nat_lt (amount standing k) (amount plan k)) (negsuc 0) (pos 1)

abbrev pub step_both : Net → List ℕ → List ℕ → Direction → ℕ → ℤ × ℤ
step_both net standing plan d k = (step_cents net d k, step_bikes standing plan d k)

abbrev pub CentsStep : Net → List ℕ → ℕ → ℕ → ℤ → Type 0
CentsStep net plan = Step net plan (step_cents net)

abbrev pub BothStep : Net → List ℕ → List ℕ → ℕ → ℕ → ℤ × ℤ → Type 0
BothStep net standing plan = Step net plan (step_both net standing plan)

abbrev pub both_group : OrderedGroup (ℤ × ℤ)
both_group = paired whole whole

-- potential(end) ≤ potential(start) + cost for every step
abbrev pub Certifies : Net → List ℕ → List ℕ → (ℕ → ℤ × ℤ) → Type 0
Certifies net standing plan π = (u v : ℕ) (c : ℤ × ℤ) → BothStep net standing plan u v c → both_group.le (π v) (both_group.add (π u) c)
