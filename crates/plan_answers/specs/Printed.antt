-- What `vanplan` prints for a text.
--   whole_lengths   slices and working tables for the largest network
--   cents_line      the line that tells what a plan costs
--   leg_line        the line that tells a leg and its bikes
--   leg_lines       the lines of all legs under a plan
--   plan_lines      the lines of a plan
--   BestPlan        bytes that tell a best plan
--   NoPlan          bytes that tell that no plan obeys
--   PrintsNet       a network, number and place of its refusal before the search if there is one, and the bytes that are printed for it
--   PrintsWhole     a network, and the bytes that are printed for it in tables for the largest
--   PrintsStated    a network that a text states, and the bytes that are printed for it
use Rattle.std.specs.Prelude.{◌≡◌, ℕ, ◌+◌, ◌⊎◌, List, [], ◌∷◌, ◌++◌, length, Some, None, codes, decimal, Option}
use Rattle.std.specs.List.{range_with_len, flat_map}
use Rattle.records.specs.declared.leg.Leg.{Leg}
use Rattle.text_rules.specs.Stated.{StatedNetwork}
use Rattle.network.specs.Nets.{Net}
use Rattle.plans.specs.Cuts.{Cut}
use Rattle.plans.specs.Plans.{leg_at, amount, Obeys, cents, CheapestThenNearest}
use Rattle.planning_rules.specs.Checks.{planning_fault}
use Rattle.planning_rules.specs.declared.lengths.Lengths.{Lengths}
use Rattle.text_table.specs.Stands.{net_of}
use Rattle.answers.specs.Answered.{refusal_line}

-- an entry for each station and each leg that a network can have
abbrev pub whole_lengths : Lengths
whole_lengths = record { prices = 240; cut = 240; station_entries = 240; leg_entries = 3000 }

-- `s CENTS`
abbrev pub cents_line : ℕ → List ℕ
cents_line c = codes "s " ++ (decimal c ++ (10 ∷ []))

-- `f SRC DST BIKES`; station k has the ID k + 1
abbrev pub leg_line : Leg → ℕ → List ℕ
leg_line leg bikes =
    codes "f " ++ (decimal (leg.start + 1) ++ (codes " " ++ (decimal (leg.end + 1) ++ (codes " " ++ (decimal bikes ++ (10 ∷ []))))))

-- by rising number of the legs
abbrev pub leg_lines : Net → List ℕ → List ℕ
leg_lines net plan = flat_map (λ k. leg_line (leg_at net k) (amount plan k)) (range_with_len 0 (length net.legs))

abbrev pub plan_lines : Net → List ℕ → List ℕ
plan_lines net plan = cents_line (cents net plan) ++ leg_lines net plan

-- a cheapest plan and among those one that is nearest to the empty plan, so one that carries the fewest bikes
pub record BestPlan (net : Net) (bytes : List ℕ) : Type 0 where
  pub plan : List ℕ
  pub best : CheapestThenNearest net [] plan
  pub told : bytes ≡ plan_lines net plan

-- the place of the refusal is the number of stations in a cut
pub record NoPlan (net : Net) (bytes : List ℕ) : Type 0 where
  pub none_obeys : (plan : List ℕ) → Obeys net plan → ⊥
  pub cut : List ℕ
  pub is_cut : Cut net cut
  pub told : bytes ≡ refusal_line 15 (length cut)

-- which best plan and which cut is left open
abbrev pub PrintsNet : Net → Option (ℕ × ℕ) → List ℕ → Type 0
PrintsNet net (Some f) bytes = bytes ≡ refusal_line f.0 f.1
PrintsNet net None bytes = BestPlan net bytes ⊎ NoPlan net bytes

-- by planning in tables for the largest network
abbrev pub PrintsWhole : Net → List ℕ → Type 0
PrintsWhole net bytes = PrintsNet net (planning_fault net whole_lengths) bytes

abbrev pub PrintsStated : StatedNetwork → List ℕ → Type 0
PrintsStated net bytes = PrintsWhole (net_of net) bytes
