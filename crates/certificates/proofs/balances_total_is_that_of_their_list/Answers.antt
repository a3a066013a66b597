use Rattle.certificates.proofs.Balanced.{total_listed}
use Rattle.certificates.proofs.balances_total_is_that_of_their_list.Goals as goal

pub returns : goal.returns
returns c = total_listed
