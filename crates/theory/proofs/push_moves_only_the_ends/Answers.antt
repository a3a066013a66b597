use Rattle.theory.proofs.Pushing
use Rattle.theory.proofs.push_moves_only_the_ends.Goals as goal

pub returns : goal.returns
returns g c = λ d ls xs e f b o v ks c ys t. Pushing.push g.K.Grouped.group d ls xs e f t
