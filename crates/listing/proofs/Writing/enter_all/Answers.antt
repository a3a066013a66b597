use Rattle.std.proofs.Common.{◌≡◌, ◌++◌, sym, ◌∙◌, subst, arith}
use Rattle.std.proofs.lemmas.Iterator.{YieldsList-from_slice, YieldsList-from_range}
use Rattle.std.proofs.lemmas.Iterator.Consumers.{YieldsList-end, YieldsList-from_chain, YieldsList-from_copied}
use Rattle.std.proofs.lemmas.List.{map-id}
use Rattle.std.specs.List.{range_with_len}
use Rattle.listing.specs.Writings.{Enters}
use Rattle.listing.proofs.Writing.enter_all.Goals as goal

pub returns : goal.returns
returns g c =
    let s = c.args.self.now in
    let t = YieldsList-end (YieldsList-from_chain (YieldsList-from_copied (YieldsList-from_slice c.args.earlier.now (cc))) (YieldsList-from_range 0 s.count s.count (cc) (omega arith)) (cc) (cc)) c.loop-number.yielded _ c.loop-number.yielded_by _ _ c.in-None.is c.next.ensures.steps in
    let e : c.loop-number.yielded ≡ c.args.earlier.now ++ range_with_len 0 s.count = sym (map-id c.loop-number.yielded) ∙ t.0 in
    subst (λ us. Enters (g.B.Belongs.belongs s.who.now) us s c.loop-number.self) e c.loop-number.invariant
