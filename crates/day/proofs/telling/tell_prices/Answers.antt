use Rattle.std.specs.Fmt.{signed_decimal}
use Rattle.day.proofs.Shown.{shown}
use Rattle.day.proofs.telling.tell_prices.Goals as goal

pub returns : goal.returns
returns c = rw (shown signed_decimal c.args.prices.now) at c.writeln.ensures.bytes
