-- The plan to start from is what the level potential mends no guess to, so it fits and is certified.
use Rattle.std.proofs.Common.{◌≡◌, ℕ, List, [], length, arith}
use Rattle.std.proofs.lemmas.Int.{ints}
use Rattle.std.proofs.lemmas.List.FromFn.{length-map-range_with_len, get_or-map-range_with_len}
use Rattle.std.proofs.lemmas.Bool.Decides.{nat_tests}
use Rattle.records.specs.declared.leg.Leg.{Leg}
use Rattle.network.specs.Nets.{Net}
use Rattle.plans.specs.Plans.{leg_at, amount}
use Rattle.certificates.specs.Starts.{first_amount, First, first_plan, level}
use Rattle.certificates.specs.Mends.{rise, mended_amount, Mended}

pub is_first : (net : Net) (standing : List ℕ) → First net standing (first_plan net standing)
is_first net standing =
    let f : ℕ → ℕ = λ k. first_amount (leg_at net k) (amount standing k) in
    record {
      one_each = length-map-range_with_len f 0 (length net.legs);
      each = λ k h. get_or-map-range_with_len f 0 (length net.legs) k k 0 h (omega arith);
    }

on_leg : (l : Leg) (s x : ℕ) → x ≡ first_amount l s → x ≡ mended_amount l s (rise l level) 0
on_leg l s x e = grind (arith, ints, nat_tests)

pub is_level_mend : (net : Net) (standing plan : List ℕ) → First net standing plan → Mended net standing [] level plan
is_level_mend net standing plan f = record { one_each = f.one_each; each = λ k h. on_leg (leg_at net k) (amount standing k) (amount plan k) (f.each k h) }
