-- Worked examples: what the rules of planning allow on small networks, and that they allow nothing else.
--   none             the standing plan that sends no bike, on three legs
--   OnlyBest         a plan that alone is cheapest, then nearest, with its cents and its difference
--   OnlyPrice        the one price of a station
--   WorkedExamples   all of the examples
use Rattle.std.specs.Prelude.{List, [], ◌∷◌, ◌⊎◌, ◌↔◌, ◌≡◌, ℕ, ℤ, pos, negsuc}
use Rattle.network.specs.Nets.{Net}
use Rattle.table.specs.Tables.{table_of}
use Rattle.plans.specs.Plans.{Obeys, cents, difference, SameAmounts, CheapestThenNearest}
use Rattle.plans.specs.Prices.{Price}
use Rattle.plans.specs.Cuts.{Cut}
use Rattle.examples.specs.Networks.{station, T_legs, U_legs, three_stations, T, U, T_shut, U_shut, T_limited, lone, lone_yard}

abbrev pub none : List ℕ
none = 0 ∷ 0 ∷ 0 ∷ []

-- next to the standing plan; c are the cents, and d the bikes of difference
pub record OnlyBest (net : Net) (standing plan : List ℕ) (c d : ℕ) : Type 0 where
  pub exactly : (p : List ℕ) → CheapestThenNearest net standing p ↔ (p ≡ plan)
  pub costs : cents net plan ≡ c
  pub differs : difference net standing plan ≡ d

-- of station v under a plan
abbrev pub OnlyPrice : Net → List ℕ → ℕ → ℤ → Type 0
OnlyPrice net plan v z = (s : ℤ) → Price net plan v s ↔ (s ≡ z)

pub record WorkedExamples : Type 0 where
  -- the networks are what tables of these records mean
  pub T_is_a_table : table_of T_legs three_stations ≡ T
  pub U_is_a_table : table_of U_legs three_stations ≡ U
  pub lone_is_a_table : table_of [] (station (pos 3) ∷ []) ≡ lone
  -- all 4 bikes go over station 1, at 30 cents each
  pub first_plan_of_T : OnlyBest T none (4 ∷ 4 ∷ 0 ∷ []) 120 8
  -- under that plan the stations have the prices -30, -10 and 0
  pub price_at_the_start : OnlyPrice T (4 ∷ 4 ∷ 0 ∷ []) 0 (negsuc 29)
  pub price_on_the_way : OnlyPrice T (4 ∷ 4 ∷ 0 ∷ []) 1 (negsuc 9)
  pub price_at_the_end : OnlyPrice T (4 ∷ 4 ∷ 0 ∷ []) 2 (pos 0)
  -- without leg 1 only 3 of the 4 bikes can reach station 2
  pub closing_makes_it_impossible : (p : List ℕ) → Obeys T_shut p → ⊥
  -- and stations 0 and 1 are the only cut, in either order
  pub cuts_after_the_closing : (vs : List ℕ) → Cut T_shut vs ↔ ((vs ≡ 0 ∷ 1 ∷ []) ⊎ (vs ≡ 1 ∷ 0 ∷ []))
  -- where both ways cost the same, the direct leg takes as many as it can: one leg for each bike and not two
  pub nearest_decides_among_equal_cents : OnlyBest U none (1 ∷ 1 ∷ 3 ∷ []) 120 5
  -- without the direct leg all go over station 1, far as that is from the standing plan
  pub closing_moves_bikes_to_the_other_way : OnlyBest U_shut (1 ∷ 1 ∷ 3 ∷ []) (4 ∷ 4 ∷ 0 ∷ []) 120 9
  -- 3 bikes go over station 1, and the fourth directly
  pub van_limit_sends_one_directly : OnlyBest T_limited none (3 ∷ 3 ∷ 1 ∷ []) 130 7
  -- the yard takes the 3 bikes that are to spare
  pub yard_takes_what_is_to_spare : OnlyBest lone_yard (0 ∷ 0 ∷ []) (3 ∷ 0 ∷ []) 75 3
  -- of a standing plan only the amounts on the legs count, so the examples hold for longer and shorter lists too
  pub standing_amounts_alone_count : (net : Net) (standing other plan : List ℕ) (c d : ℕ) → SameAmounts net standing other → OnlyBest net standing plan c d → OnlyBest net other plan c d
