use Rattle.std.proofs.Common.{Err, ap, ◌∙◌}
use Rattle.std.proofs.lemmas.Result.{err_from_is_err_and}
use Rattle.reader.specs.Entering.{room_of}
use Rattle.reader.specs.Taking.{State, state_of}
use Rattle.reader.proofs.Steps.{sofar_more, filled_refused, filled_for}
use Rattle.reader.proofs.reading.read_lines.Goals as goal

pub returns-in_err-line : goal.returns-in_err-line
returns-in_err-line c =
    let inv = c.loop-line.invariant in
    let room = room_of c.args.legs.now c.args.stations.now in
    let s : State = state_of c.loop-line.reader in
    let p = err_from_is_err_and c.from_residual.result c.from_residual.ensures.1 in
    rw (p.1, p.2) (filled_for (Err _) room _ _ _ c.loop-line.legs c.loop-line.stations inv.0 inv.1
    (filled_refused s _ _ _ _ inv.2 c.in_err-line.ensures))

pub loop-line-preserved : goal.loop-line-preserved
loop-line-preserved c =
    let inv = c.loop-line.invariant in
    let s : State = state_of c.loop-line.reader in
    let took = rw c.in-Some.is at c.in_ok-line.ensures in (
      ap (λ (x : State). x.text) took.4 ∙ inv.0,
      ap (λ (x : State). x.room) took.4 ∙ inv.1,
      rw (c.enter.ensures.legs, c.enter.ensures.stations) (sofar_more s _ c.in-Some.line _ _ inv.2 took),
    )
