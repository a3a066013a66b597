use Rattle.std.proofs.Common.{refl, length, take, arith}
use Rattle.plans.specs.Plans.{stations}
use Rattle.plans.specs.Cuts.{Cut}
use Rattle.planning.specs.Reached.{reached_below, WritesCut}
use Rattle.planning.proofs.Finishing.{impossible}
use Rattle.planning.proofs.turns.turns.Goals as goal

pub returns-in_default-clause-end : goal.returns-in_default-clause-end
returns-in_default-clause-end g c prices =
    let net = g.N.Network.meaning c.args.net.now in
    let ls = c.turn.new.tables.labels.now in
    let firsts = take (stations net) ls in
    let cut : Cut net (reached_below ls (stations net)) = rw c.in_default.is at c.in_ok-less.ensures.turns in
    let w : WritesCut (length firsts) firsts c.write_cut-count.result c.args.cut.now c.write_cut-count.new.cut = rw (← c.stations.ensures, ← c.first.ensures, ← c.loop-over.invariant.3) c.write_cut-count.ensures in
    (refl, impossible net c.write_cut-count.result ls prices c.args.cut.now c.write_cut-count.new.cut c.requires.prepared.ends_below c.requires.room (omega (arith, c.loop-over.invariant.0.labels, c.in_ok-less.ensures.stay.labels.long)) cut w)
