use Rattle.std.proofs.Common.{◌≡◌, length}
use Rattle.search.specs.Chains.{Chained, SameChains}
use Rattle.search.proofs.chains.Chains.link.Given as goal

-- the legs below are in the chains
abbrev pub invariant-loop-number : goal.invariant-loop-number
invariant-loop-number g l =
    (l.number-end ≡ length (g.N.Network.meaning l.net).legs) × Chained (g.N.Network.meaning l.net) l.number l.self.heads.now l.self.nexts.now × SameChains l.initial.self l.self
