use Rattle.certificates.proofs.Balanced.{total}
use Rattle.certificates.proofs.left_overs_sum_to_the_balances.Goals as goal

pub returns : goal.returns
returns c = total
