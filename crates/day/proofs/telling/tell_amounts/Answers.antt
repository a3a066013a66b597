use Rattle.std.specs.Fmt.{decimal}
use Rattle.day.proofs.Shown.{shown}
use Rattle.day.proofs.telling.tell_amounts.Goals as goal

pub returns : goal.returns
returns c = rw (shown decimal c.args.amounts.now) at c.writeln.ensures.bytes
