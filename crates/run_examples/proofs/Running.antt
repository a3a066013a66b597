-- The runs, from call to call.
use Rattle.std.proofs.Common.{◌≡◌, [], ◌∷◌, pos, negsuc, refl, arith}
use Rattle.plans.specs.Prices.{price_at}
use Rattle.examples.specs.Networks.{T, U, T_shut, U_shut, T_limited, lone_yard}
use Rattle.examples.proofs.Ways.{cheap_way, near_way, other_way, both_ways}
use Rattle.examples.proofs.Priced.{price_at_start, price_on_the_way, price_at_end}
use Rattle.examples.proofs.Yarded.{to_spare}
use Rattle.tally.specs.Tallies.{Tally, fresh, with_meaning, with_plan, with_stations}
use Rattle.tally.specs.Follows.{Papers}
use Rattle.tally.specs.declared.answer.Answer.{Answer}
use Rattle.tally.specs.declared.call.Call.TheVariants.{Report, Close}
use Rattle.run_examples.specs.After.{After, AfterPlanning, AfterListing, End, NewPlan, Holds, CutOff, Alters, HandsOut}
use Rattle.run_examples.specs.WorkedRuns.{row, AllOverStation1, PlanThenCut, PlanThenOther, PlanUnderLimit, PlanWithYard, ComesBackLast}
use Rattle.run_examples.proofs.Calling.{after_closing, after_report, after_listing, after_planning, with_more, after_cut}
use Rattle.run_examples.proofs.Writing.{three}

-- ---- a plan, a closing, and no plan
abbrev Stopped : Tally → Type 0
Stopped u = AfterPlanning u (CutOff u) (λ v. v.plan ≡ 4 ∷ 4 ∷ 0 ∷ [])

abbrev Severed : Tally → Type 0
Severed t = After t (Close 1) (Alters t T_shut) Stopped

abbrev T_planned : Tally
T_planned = with_plan (fresh T) (4 ∷ 4 ∷ 0 ∷ [])

stopped : Stopped (with_meaning T_planned T_shut)
stopped = after_cut (with_meaning T_planned T_shut) (λ v. v.plan ≡ 4 ∷ 4 ∷ 0 ∷ []) refl refl

severed : Severed T_planned
severed = after_closing T_planned 1 T_shut Stopped refl refl stopped

holds : (x : Answer) (q q' : Papers) (t : Tally) → NewPlan (fresh T) (4 ∷ 4 ∷ 0 ∷ []) 120 8 x q q' t → Holds (negsuc 29 ∷ negsuc 9 ∷ pos 0 ∷ []) q.prices q'.prices
holds x q q' t k =
    three (negsuc 29) (negsuc 9) (pos 0) q.prices q'.prices
    ((price_at_start (price_at q'.prices 0)).0 (k.priced.price 0 (omega arith)))
    ((price_on_the_way (price_at q'.prices 1)).0 (k.priced.price 1 (omega arith)))
    ((price_at_end (price_at q'.prices 2)).0 (k.priced.price 2 (omega arith)))
    k.prices_beyond

pub plan_then_cut : PlanThenCut
plan_then_cut =
    with_more (fresh T) (NewPlan (fresh T) (4 ∷ 4 ∷ 0 ∷ []) 120 8) AllOverStation1 Severed (λ x q q' t. (λ k. (k, holds x q q' t k), λ k. k.0))
    (after_planning (fresh T) (4 ∷ 4 ∷ 0 ∷ []) 120 8 Severed refl cheap_way severed)

-- ---- a plan, a closing, and another plan
abbrev Moved : Tally → Type 0
Moved u = AfterPlanning u (NewPlan u (4 ∷ 4 ∷ 0 ∷ []) 120 9) End

abbrev Narrowed : Tally → Type 0
Narrowed t = After t (Close 2) (Alters t U_shut) Moved

abbrev U_planned : Tally
U_planned = with_plan (fresh U) (1 ∷ 1 ∷ 3 ∷ [])

moved : Moved (with_meaning U_planned U_shut)
moved = after_planning (with_meaning U_planned U_shut) (4 ∷ 4 ∷ 0 ∷ []) 120 9 End refl other_way tt

pub plan_then_other : PlanThenOther
plan_then_other = after_planning (fresh U) (1 ∷ 1 ∷ 3 ∷ []) 120 5 Narrowed refl near_way (after_closing U_planned 2 U_shut Moved refl refl moved)

-- ---- one plan
pub plan_under_limit : PlanUnderLimit
plan_under_limit = after_planning (fresh T_limited) (3 ∷ 3 ∷ 1 ∷ []) 130 7 End refl both_ways tt

pub plan_with_yard : PlanWithYard
plan_with_yard = after_planning (fresh lone_yard) (3 ∷ 0 ∷ []) 75 3 End refl to_spare tt

-- ---- three lists
abbrev Third : Tally → Type 0
Third w = AfterListing w (HandsOut w (2 ∷ 0 ∷ [])) End

abbrev Back : Tally → Type 0
Back v = After v (Report 0 (negsuc 1)) (Alters v (row (negsuc 1))) Third

abbrev Second : Tally → Type 0
Second u = AfterListing u (HandsOut u (2 ∷ [])) Back

abbrev Away : Tally → Type 0
Away t = After t (Report 0 (pos 1)) (Alters t (row (pos 1))) Second

abbrev first_listed : Tally
first_listed = with_stations (fresh (row (negsuc 1))) (0 ∷ 2 ∷ [])

abbrev gone : Tally
gone = with_meaning first_listed (row (pos 1))

abbrev second_listed : Tally
second_listed = with_stations gone (2 ∷ [])

abbrev returned : Tally
returned = with_meaning second_listed (row (negsuc 1))

third : Third returned
third = after_listing returned (2 ∷ 0 ∷ []) End refl tt

second : Second gone
second = after_listing gone (2 ∷ []) Back refl (after_report second_listed 0 (negsuc 1) (row (negsuc 1)) Third refl refl third)

pub comes_back_last : ComesBackLast
comes_back_last = after_listing (fresh (row (negsuc 1))) (0 ∷ 2 ∷ []) Away refl (after_report first_listed 0 (pos 1) (row (pos 1)) Second refl refl second)
