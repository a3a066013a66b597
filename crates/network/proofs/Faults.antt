-- What it says that a call meets no fault.
use Rattle.std.proofs.Common.{◌≡◌, ℕ, ◌<◌, List, ℤ, None, Result, subst, arith, w32, SFits, to_z, of_z}
use Rattle.std.proofs.lemmas.Int.{to_z-of_z}
use Rattle.std.proofs.lemmas.Bool.Decides.{nat_tests}
use Rattle.records.specs.declared.leg.Leg.{Leg}
use Rattle.records.specs.declared.leg.Mark.{Mark}
use Rattle.records.specs.declared.refusal.Refusal.{Refusal}
use Rattle.network.specs.Nets.{Net}
use Rattle.network.specs.Offices.{Reports, report_fault, mark_fault}

-- an accepted report is of an open station
pub report_open : (a s : ℕ) (b : ℤ) → report_fault a s b ≡ None → s < a
report_open a s b e = grind (arith, nat_tests)

-- an accepted closing or reopening is of a road leg
pub mark_road : (r : ℕ) (ls : List Leg) (i : ℕ) (k : Mark) → mark_fault r ls i k ≡ None → i < r
mark_road r ls i k e = grind (arith, nat_tests)

-- a number that is passed on is the number
pub passed_on : (r : Result (Unit {0}) Refusal) (n m : Net) (s : ℕ) (b : ℤ) → SFits w32 b → Reports r n m s (to_z w32 (of_z w32 b)) → Reports r n m s b
passed_on r n m s b f h = subst (λ (z : ℤ). Reports r n m s z) (to_z-of_z w32 b f) h
