use Rattle.std.proofs.Common.{◌≡◌, ◌-◌, ◌^◌, ◌<◌}
use Rattle.lines.specs.Scan.{scanned}
use Rattle.lines.proofs.scan.numeral.Given as goal

-- what is left to scan gives what was to be scanned after the first digit
abbrev pub invariant-loop-taken : goal.invariant-loop-taken
invariant-loop-taken l =
    (l.value < 10 ^ l._taken) × (scanned (9 - l._taken) l.value l.rest ≡ scanned 8 l.initial.value l.initial.rest)
