-- Sums over all stations.
--   total_below   the sum of f over the numbers below m, with sign
--   over          an integer where it is above zero, else 0
--   all_over      the bikes that a plan leaves over, at all stations that have too many
use Rattle.std.specs.Prelude.{ℕ, zero, suc, List, ℤ, pos, negsuc, ◌+ℤ◌}
use Rattle.network.specs.Nets.{Net}
use Rattle.plans.specs.Plans.{sum_below, stations}
use Rattle.plans.specs.Cuts.{left_over}

abbrev pub total_below : ℕ → (ℕ → ℤ) → ℤ
total_below zero f = pos 0
total_below (suc m) f = total_below m f +ℤ f m

abbrev pub over : ℤ → ℕ
over (pos a) = a
over (negsuc a) = 0

abbrev pub all_over : Net → List ℕ → ℕ
all_over net plan = sum_below (stations net) (λ v. over (left_over net plan v))
