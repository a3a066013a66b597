use Rattle.run_examples.proofs.Running.{plan_then_cut, plan_then_other, plan_under_limit, plan_with_yard, comes_back_last}
use Rattle.run_examples.proofs.worked_runs.Goals as goal

pub returns : goal.returns
returns c =
    record {
      closing_makes_it_impossible = plan_then_cut;
      closing_moves_bikes_to_the_other_way = plan_then_other;
      van_limit_sends_one_directly = plan_under_limit;
      yard_takes_what_is_to_spare = plan_with_yard;
      who_comes_back_stands_last = comes_back_last;
    }
