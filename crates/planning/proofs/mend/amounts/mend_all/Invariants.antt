use Rattle.std.proofs.Common.{◌≡◌, ℕ, ◌<◌, ◌≤◌}
use Rattle.plans.specs.Plans.{leg_at, amount}
use Rattle.certificates.specs.Mends.{rise, mended_amount}
use Rattle.planning.specs.Potentials.{potential}
use Rattle.planning.proofs.mend.amounts.mend_all.Given as goal

-- the amounts below are mended, the others are as they were guessed
abbrev pub invariant-loop-number : goal.invariant-loop-number
invariant-loop-number g l = record {
  mended : (k : ℕ) → k < l.number → amount l.plan k ≡ mended_amount (leg_at (g.N.Network.meaning l.net) k) (amount l.standing k) (rise (leg_at (g.N.Network.meaning l.net) k) (potential l.potentials)) (amount l.initial.plan k);
  guessed : (k : ℕ) → l.number ≤ k → amount l.plan k ≡ amount l.initial.plan k;
}
