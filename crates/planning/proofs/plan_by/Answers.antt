use Rattle.std.proofs.Common.{◌≡◌, None}
use Rattle.std.proofs.lemmas.Result.{err_from_is_err_and}
use Rattle.planning_rules.specs.Checks.{planning_fault}
use Rattle.planning.specs.Potentials.{potential}
use Rattle.planning.specs.Tables.{lengths_of}
use Rattle.planning.proofs.Finishing.{begins, prepared, best, answered}
use Rattle.planning.proofs.Keeping.{same_tables, same_twice}
use Rattle.planning.proofs.plan_by.Goals as goal

pub begin-over-requires : goal.begin-over-requires
begin-over-requires g c =
    let e : planning_fault (g.N.Network.meaning c.args.net.now) (lengths_of c.args.prices.now c.args.cut.now c.args.tables.now) ≡ None = rw c.lengths.ensures at c.in_ok-check.ensures.checks in
    prepared (g.N.Network.meaning c.args.net.now) c.args.prices.now c.args.cut.now c.args.tables.now _ (g.N.Network.limits c.args.net.now) e (same_tables c.args.tables.now)

pub turns-requires-clause-prepared : goal.turns-requires-clause-prepared
turns-requires-clause-prepared g c =
    let e : planning_fault (g.N.Network.meaning c.args.net.now) (lengths_of c.args.prices.now c.args.cut.now c.args.tables.now) ≡ None = rw c.lengths.ensures at c.in_ok-check.ensures.checks in
    prepared (g.N.Network.meaning c.args.net.now) c.args.prices.now c.args.cut.now c.args.tables.now _ (g.N.Network.limits c.args.net.now) e c.begin-over.ensures.stay

pub turns-requires-clause-underway : goal.turns-requires-clause-underway
turns-requires-clause-underway g c =
    let made = c.begin-over.ensures.begins in
    begins (g.N.Network.meaning c.args.net.now) c.args.standing.now made.amounts (potential made.potentials) c.args.tables.now.draft c.begin-over.new.tables.draft c.begin-over.result made.made

pub returns-in_err-turns-clause-planned : goal.returns-in_err-turns-clause-planned
returns-in_err-turns-clause-planned g c =
    let e : planning_fault (g.N.Network.meaning c.args.net.now) (lengths_of c.args.prices.now c.args.cut.now c.args.tables.now) ≡ None = rw c.lengths.ensures at c.in_ok-check.ensures.checks in
    let p = err_from_is_err_and c.from_residual-in_err-turns.result c.from_residual-in_err-turns.ensures.1 in
    rw (p.1, e, p.2) (c.in_err-turns.ensures.end c.args.prices.now)

pub finish-requires-clause-prepared : goal.finish-requires-clause-prepared
finish-requires-clause-prepared g c =
    let e : planning_fault (g.N.Network.meaning c.args.net.now) (lengths_of c.args.prices.now c.args.cut.now c.args.tables.now) ≡ None = rw c.lengths.ensures at c.in_ok-check.ensures.checks in
    prepared (g.N.Network.meaning c.args.net.now) c.args.prices.now c.args.cut.now c.args.tables.now c.turns.new.tables (g.N.Network.limits c.args.net.now) e
    (same_twice c.begin-over.ensures.stay c.in_ok-turns.ensures.stay)

pub finish-requires-clause-best : goal.finish-requires-clause-best
finish-requires-clause-best g c =
    let e : planning_fault (g.N.Network.meaning c.args.net.now) (lengths_of c.args.prices.now c.args.cut.now c.args.tables.now) ≡ None = rw c.lengths.ensures at c.in_ok-check.ensures.checks in
    best (g.N.Network.meaning c.args.net.now) c.args.standing.now c.args.prices.now c.args.cut.now c.args.tables.now c.turns.new.tables e c.in_ok-turns.ensures.end.0

pub returns-clause-planned : goal.returns-clause-planned
returns-clause-planned g c =
    let e : planning_fault (g.N.Network.meaning c.args.net.now) (lengths_of c.args.prices.now c.args.cut.now c.args.tables.now) ≡ None = rw c.lengths.ensures at c.in_ok-check.ensures.checks in
    rw c.in_ok-turns.ensures.end.1 (answered (g.N.Network.meaning c.args.net.now) c.args.standing.now (lengths_of c.args.prices.now c.args.cut.now c.args.tables.now) c.finish.result c.args.prices.now c.finish.new.prices c.args.cut.now c.finish.new.tables.draft.amounts.now e
    c.finish.ensures.finishes)
