use Rattle.std.proofs.Common.{◌≡◌, ◌∙◌, arith, w32, w64, SFits, to_z, of_z, rules}
use Rattle.std.proofs.lemmas.Int.{ints, to_z-of_z}
use Rattle.planning.proofs.Leaving.{written_more}
use Rattle.planning.proofs.mend.leaving.write_balances.Goals as goal

pub loop-station-preserved : goal.loop-station-preserved
loop-station-preserved g c =
    let net = g.N.Network.meaning c.args.net.now in
    let i = c.loop-station.station in
    let f32 : SFits w32 c.balance_of.result = search rules in
    let f64 : SFits w64 c.from.result = search rules in
    let same : to_z w64 (of_z w64 c.from.result) ≡ c.balance_of.result = to_z-of_z w64 c.from.result f64 ∙ c.from.ensures ∙ to_z-of_z w32 c.balance_of.result f32 in
    written_more net c.loop-station.left i _ (omega arith) (same ∙ c.balance_of.ensures) (omega (arith, ints, same, f32), omega (arith, ints, same, f32)) c.loop-station.invariant
