use Rattle.std.proofs.Common.{refl}
use Rattle.examples.proofs.Ways.{cheap_way, near_way, other_way, both_ways, no_way}
use Rattle.examples.proofs.Priced.{price_at_start, price_on_the_way, price_at_end}
use Rattle.examples.proofs.Severed.{cuts}
use Rattle.examples.proofs.Yarded.{to_spare}
use Rattle.examples.proofs.Standing.{only_alike}
use Rattle.examples.proofs.worked_examples.Goals as goal

pub returns : goal.returns
returns c =
    record {
      T_is_a_table = refl;
      U_is_a_table = refl;
      lone_is_a_table = refl;
      first_plan_of_T = cheap_way;
      price_at_the_start = price_at_start;
      price_on_the_way = price_on_the_way;
      price_at_the_end = price_at_end;
      closing_makes_it_impossible = no_way;
      cuts_after_the_closing = cuts;
      nearest_decides_among_equal_cents = near_way;
      closing_moves_bikes_to_the_other_way = other_way;
      van_limit_sends_one_directly = both_ways;
      yard_takes_what_is_to_spare = to_spare;
      standing_amounts_alone_count = only_alike;
    }
