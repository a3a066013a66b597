use Rattle.std.proofs.Common.{arith}
use Rattle.std.proofs.lemmas.Grind.{common_steps}
use Rattle.std.proofs.lemmas.Option.{gets}
use Rattle.table.proofs.TableNetwork.leg.Goals as goal

pub returns : goal.returns
returns c = rw (← c.first.ensures) (grind (arith, common_steps, gets))
