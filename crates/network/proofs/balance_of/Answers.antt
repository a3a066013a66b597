use Rattle.std.proofs.Common.{pos, sym, ◌∙◌, w32, SFits, rules}
use Rattle.std.proofs.lemmas.Int.{to_z-of_z}
use Rattle.std.proofs.lemmas.Option.{get_or_from_slice_get}
use Rattle.network.proofs.Places.{get_or_none}
use Rattle.network.proofs.balance_of.Goals as goal

pub returns-in_default : goal.returns-in_default
returns-in_default g c = sym (get_or_none (g.N.Network.meaning c.args.network.now).balances c.args.station (pos 0) (sym c.in_default.ensures))

pub returns : goal.returns
returns g c =
    let fits : SFits w32 c.in-Some.balance = search rules in
    to_z-of_z w32 c.in-Some.balance fits
    ∙ sym (get_or_from_slice_get (g.N.Network.meaning c.args.network.now).balances c.args.station c.in-Some.balance (pos 0) (sym c.in-Some.ensures))
