-- Worked runs of calls: what the rules of a board allow as answers, and that they allow nothing else.
--   row                 four stations without legs, by the balance of the first
--   AllOverStation1     a plan at 120 cents, with the prices -30, -10 and 0
--   PlanThenCut         that plan, a closing, and no plan
--   PlanThenOther       a plan, a closing, and another plan
--   PlanUnderLimit      a plan under a van limit
--   PlanWithYard        a plan with a yard
--   ComesBackLast       three lists, with a report between each two
--   WorkedRuns          all of the runs
-- Each begins with the tally of a new board. negsuc 0 is -1, negsuc 1 is -2, and so on.
use Rattle.std.specs.Prelude.{◌≡◌, [], ◌∷◌, ℤ, pos, negsuc}
use Rattle.network.specs.Nets.{Net}
use Rattle.table.specs.Tables.{table_of}
use Rattle.examples.specs.Networks.{station, T, U, T_shut, U_shut, T_limited, lone_yard}
use Rattle.tally.specs.Tallies.{fresh}
use Rattle.tally.specs.declared.call.Call.TheVariants.{Report, Close}
use Rattle.run_examples.specs.After.{Outcome, After, AfterPlanning, AfterListing, End, NewPlan, Holds, CutOff, Alters, HandsOut}

-- the others have 3, -2 and 1
abbrev pub row : ℤ → Net
row b = table_of [] (station b ∷ station (pos 3) ∷ station (negsuc 1) ∷ station (pos 1) ∷ [])

-- the first plan and its prices
abbrev pub AllOverStation1 : Outcome
AllOverStation1 x q q' t = NewPlan (fresh T) (4 ∷ 4 ∷ 0 ∷ []) 120 8 x q q' t × Holds (negsuc 29 ∷ negsuc 9 ∷ pos 0 ∷ []) q.prices q'.prices

-- after the closing the first plan still stands
abbrev pub PlanThenCut : Type 0
PlanThenCut =
    AfterPlanning (fresh T) AllOverStation1 (λ t.
    After t (Close 1) (Alters t T_shut) (λ u.
    AfterPlanning u (CutOff u) (λ v.
    v.plan ≡ 4 ∷ 4 ∷ 0 ∷ [])))

-- the difference of the second plan is from the first
abbrev pub PlanThenOther : Type 0
PlanThenOther =
    AfterPlanning (fresh U) (NewPlan (fresh U) (1 ∷ 1 ∷ 3 ∷ []) 120 5) (λ t.
    After t (Close 2) (Alters t U_shut) (λ u.
    AfterPlanning u (NewPlan u (4 ∷ 4 ∷ 0 ∷ []) 120 9) End))

abbrev pub PlanUnderLimit : Type 0
PlanUnderLimit = AfterPlanning (fresh T_limited) (NewPlan (fresh T_limited) (3 ∷ 3 ∷ 1 ∷ []) 130 7) End

abbrev pub PlanWithYard : Type 0
PlanWithYard = AfterPlanning (fresh lone_yard) (NewPlan (fresh lone_yard) (3 ∷ 0 ∷ []) 75 3) End

-- station 0 has -2, then 1, then -2 again
abbrev pub ComesBackLast : Type 0
ComesBackLast =
    AfterListing (fresh (row (negsuc 1))) (HandsOut (fresh (row (negsuc 1))) (0 ∷ 2 ∷ [])) (λ t.
    After t (Report 0 (pos 1)) (Alters t (row (pos 1))) (λ u.
    AfterListing u (HandsOut u (2 ∷ [])) (λ v.
    After v (Report 0 (negsuc 1)) (Alters v (row (negsuc 1))) (λ w.
    AfterListing w (HandsOut w (2 ∷ 0 ∷ [])) End))))

pub record WorkedRuns : Type 0 where
  -- all 4 bikes go over station 1; leg 1 is closed; then no plan obeys, and the plan before stays
  pub closing_makes_it_impossible : PlanThenCut
  -- of two ways at the same cents the direct leg is nearest; it is closed; then all go over station 1
  pub closing_moves_bikes_to_the_other_way : PlanThenOther
  -- 3 bikes go over station 1, and the fourth directly
  pub van_limit_sends_one_directly : PlanUnderLimit
  -- the yard takes the 3 bikes that are to spare
  pub yard_takes_what_is_to_spare : PlanWithYard
  -- stations 0 and 2 are short; then 2 alone; then 0 again, which now stands behind 2
  pub who_comes_back_stands_last : ComesBackLast
