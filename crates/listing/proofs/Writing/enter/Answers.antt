use Rattle.std.proofs.Common.{arith}
use Rattle.listing.proofs.Marking.{has_room, marked_more}
use Rattle.listing.proofs.Writing.enter.Goals as goal

pub bounds-out-self : goal.bounds-out-self
bounds-out-self g c =
    let s = c.args.self.now in
    omega (arith, has_room s.count s.long c.args.number s.marks.now s.out.now s.marked c.if-number-self.false c.if-self-number.false, s.marked.slice_suffices)

pub invariant_of-self : goal.invariant_of-self
invariant_of-self g c =
    let s = c.args.self.now in
    record { marked = marked_more s.count c.args.number s.long s.marks.now s.out.now s.marked c.if-number-self.false c.if-self-number.false }
