-- What is handed out from a call on.
--   lent_from   the memory of those calls
use Rattle.tally.specs.Runs.{Lent}
use Rattle.board.specs.Running.{lending}
use Rattle.day.specs.declared.telling.Rest.{Rest}

abbrev pub lent_from : Rest → Lent
lent_from rest = lending rest.prices.now rest.numbers.now rest.amounts.now
