use Rattle.std.proofs.Common.{ap, ◌∙◌, string_bytes}
use Rattle.call_lines.specs.Entries.{calls_of}
use Rattle.day.proofs.Running.{ran_day}
use Rattle.day.proofs.days.day_text.Goals as goal

pub returns-in-Ok : goal.returns-in-Ok
returns-in-Ok g c =
    ran_day string_bytes (g.N.Network.meaning c.args.net) c.args.input.now c.in_ok-entries.entries.items (rw c.of-sizes.ensures at c.in_ok-entries.ensures)
    c.as_slice-3.result.now (c.as_slice-3.ensures.value ∙ c.in_ok-calls.ensures ∙ ap calls_of c.as_slice.ensures.value) _ _ _ _ c.in-Ok.ensures c.told.result
    (rw (c.of-sizes.ensures, c.as_slice-in-Ok.ensures.value, c.rest.ensures.answers, c.rest.ensures.handed) at c.told.ensures)
