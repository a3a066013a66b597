use Rattle.listing.specs.Writings.{Enters}
use Rattle.listing.proofs.Writing.enter_all.Given as goal

-- the numbers so far are entered
abbrev pub invariant-loop-number : goal.invariant-loop-number
invariant-loop-number g l = Enters (g.B.Belongs.belongs l.initial.self.who.now) l.yielded l.initial.self l.self
