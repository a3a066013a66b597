use Rattle.plans.proofs.Around.{no_both_trip, no_cents_trip}
use Rattle.plans.proofs.best_plan_has_no_round_trip_below_zero.Goals as goal

pub returns : goal.returns
returns c = λ net standing plan b. (no_both_trip net standing plan b, no_cents_trip net standing plan b)
