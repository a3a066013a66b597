use Rattle.std.proofs.Common.{[]}
use Rattle.certificates.specs.Starts.{level}
use Rattle.certificates.proofs.Mending.{fits, certified}
use Rattle.certificates.proofs.Starting.{is_first, is_level_mend}
use Rattle.certificates.proofs.first_plan_is_certified.Goals as goal

pub returns : goal.returns
returns c = λ net standing. (is_first net standing, λ plan f. let m = is_level_mend net standing plan f in (fits net standing [] plan level m, certified net standing [] plan level m))
