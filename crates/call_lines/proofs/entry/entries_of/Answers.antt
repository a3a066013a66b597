use Rattle.std.proofs.Common.{◌≡◌, [], subst, append-nil, rules}
use Rattle.call_lines.specs.Entries.{Read}
use Rattle.call_lines.proofs.Reading.{nothing_left}
use Rattle.call_lines.proofs.entry.entries_of.Goals as goal

pub returns : goal.returns
returns c =
    let e : c.loop-rest.rest.now ≡ [] = nothing_left c.loop-rest.rest.now (search rules) in
    subst (Read c.args.sizes c.args.input.now) (append-nil c.loop-rest.entries.items) (c.loop-rest.invariant [] e)
