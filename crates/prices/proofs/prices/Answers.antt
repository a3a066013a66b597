use Rattle.std.proofs.Common.{◌≡◌, ◌≤◌, ◌++◌, length, drop, length-take, refl, subst, arith}
use Rattle.plans.specs.Plans.{stations}
use Rattle.prices.specs.Priced.{Writes}
use Rattle.prices.proofs.Settling.{trip_of, writes_before, written_confirmed, written_found}
use Rattle.prices.proofs.prices.Goals as goal

pub returns-then-is_claim_confirmed-clause-written : goal.returns-then-is_claim_confirmed-clause-written
returns-then-is_claim_confirmed-clause-written g c =
    let net = g.N.Network.meaning c.args.net.now in
    let n = c.stations-stations.result in
    let labels = c.claim.new.labels in
    let prices = c.args.prices.now in
    let after = c.write.new.prices ++ drop n prices in
    let e : n ≡ stations net = c.stations-stations.ensures in
    let few : n ≤ length prices = omega arith in
    let w = writes_before n labels prices c.write.new.prices few (omega (arith, few, c.write.auto.prices, length-take n prices)) c.write.ensures in
    written_confirmed net c.args.plan.now labels prices after (c.is_claim_confirmed.ensures.no_round_trip c.if-is_claim_confirmed.true, c.is_claim_confirmed.ensures.prices c.if-is_claim_confirmed.true) (subst (λ m. Writes m labels prices after) e w)

pub returns-in-Settled-clause-written : goal.returns-in-Settled-clause-written
returns-in-Settled-clause-written g c =
    let net = g.N.Network.meaning c.args.net.now in
    let n = c.stations-stations.result in
    let labels = c.search.new.labels in
    let prices = c.args.prices.now in
    let after = c.write-in-Settled.new.prices ++ drop n prices in
    let e : n ≡ stations net = c.stations-stations.ensures in
    let few : n ≤ length prices = omega arith in
    let z = rw c.in-Settled.is at c.in_ok-outcome.ensures.answer in
    let w = writes_before n labels prices c.write-in-Settled.new.prices few (omega (arith, few, c.write-in-Settled.auto.prices, length-take n prices)) c.write-in-Settled.ensures in
    rw c.in-Settled.is (written_found net c.args.plan.now labels prices after z (subst (λ m. Writes m labels prices after) e w))

pub returns-in_default-clause-written : goal.returns-in_default-clause-written
returns-in_default-clause-written g c =
    let z = rw c.in_default.is at c.in_ok-outcome.ensures.answer in
    rw c.in_default.is (trip_of (g.N.Network.meaning c.args.net.now) c.args.plan.now z, refl)
