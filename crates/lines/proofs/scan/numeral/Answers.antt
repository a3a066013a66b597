use Rattle.std.proofs.Common.{◌≡◌, ◌-◌, ◌<◌, Some, sym, ap, ◌∙◌, arith}
use Rattle.lines.specs.Scan.{scanned}
use Rattle.lines.proofs.Scanning.{tens_under, scan_stops, scan_full, numeral_begins}
use Rattle.lines.proofs.scan.numeral.Goals as goal
use Rattle.lines.proofs.scan.numeral.Goals.{else-loop-taken-test, then-loop-taken-test+in_default}

pub overflow_mul-value : goal.overflow_mul-value
overflow_mul-value c =
    let k : c.loop-taken.value < 100000000 = tens_under 8 c.loop-taken._taken _ (omega arith) c.loop-taken.invariant.0 in
    omega arith

pub overflow_add-value : goal.overflow_add-value
overflow_add-value c =
    let k : c.loop-taken.value < 100000000 = tens_under 8 c.loop-taken._taken _ (omega arith) c.loop-taken.invariant.0 in
    omega (arith, c.in-Some.ensures.small)

pub returns-clause-parsed : goal.returns-clause-parsed
returns-clause-parsed c =
    let i = c.loop-taken._taken in
    let v = c.loop-taken.value in
    let rest = c.loop-taken.rest.now in
    let stop : scanned (9 - i) v rest ≡ (v, rest) =
    elim c.loop-taken-test.branch [
      | else-loop-taken-test w ↦ (let n : 9 - i ≡ 0 = omega arith in rw n (scan_full v rest))
      | then-loop-taken-test+in_default w ↦ scan_stops (9 - i) v rest w.in_default.ensures
    ] in
    numeral_begins c.args.s.now c.in_ok-first.rest.now c.in_ok-first.first c.from-value.result c.in_ok-first.ensures c.from-value.ensures
    ∙ ap Some (sym c.loop-taken.invariant.1 ∙ stop)

pub returns-clause-small : goal.returns-clause-small
returns-clause-small c = tens_under 9 c.loop-taken._taken c.loop-taken.value (omega arith) c.loop-taken.invariant.0
