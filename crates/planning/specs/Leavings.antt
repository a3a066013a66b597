-- How far what a plan leaves over is written.
--   Near      an integer no further from 0 than that
--   Written   what is left over where nothing is carried
--   out_below, in_below   the bikes that a plan sends out of a station, and into it, over the legs below k
--   Left      what is left over where only the legs below k carry what the plan has them carry
use Rattle.std.specs.Prelude.{◌≡◌, ℕ, ◌+◌, ◌*◌, ◌<◌, if◌then◌else◌, List, length, ℤ, pos, ◌-ℤ◌, neg_ℤ, ◌≤ℤ◌, ◌==◌, slice_index_or}
use Rattle.network.specs.Nets.{Net}
use Rattle.plans.specs.Plans.{sum_below, stations, leg_at, amount, balance_at}

abbrev pub Near : ℕ → ℤ → Type 0
Near b z = (neg_ℤ (pos b) ≤ℤ z) × (z ≤ℤ pos b)

-- the balances, each within the numbers of 32 bits
pub record Written (net : Net) (left : List ℤ) : Type 0 where
  pub each : (v : ℕ) → v < length left → slice_index_or left v (pos 0) ≡ balance_at net v
  pub near : (v : ℕ) → v < length left → Near 2147483648 (slice_index_or left v (pos 0))

abbrev pub out_below : Net → List ℕ → ℕ → ℕ → ℕ
out_below net plan k v = sum_below k (λ i. if (leg_at net i).start == v then amount plan i else 0)

abbrev pub in_below : Net → List ℕ → ℕ → ℕ → ℕ
in_below net plan k v = sum_below k (λ i. if (leg_at net i).end == v then amount plan i else 0)

-- a leg moves at most 65,535 bikes, so that what is left over stays near
pub record Left (net : Net) (plan : List ℕ) (k : ℕ) (left : List ℤ) : Type 0 where
  pub long : length left ≡ stations net
  pub over : (v : ℕ) → v < stations net → slice_index_or left v (pos 0) ≡ balance_at net v -ℤ (pos (out_below net plan k v) -ℤ pos (in_below net plan k v))
  pub near : (v : ℕ) → v < stations net → Near (2147483648 + 65535 * k) (slice_index_or left v (pos 0))
