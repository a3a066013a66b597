use Rattle.plans.proofs.Best.{no_round_trip}
use Rattle.plans.proofs.certified_plan_has_no_round_trip_below_zero.Goals as goal

pub returns : goal.returns
returns c = no_round_trip
