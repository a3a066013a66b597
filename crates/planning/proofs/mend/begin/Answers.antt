use Rattle.std.proofs.Common.{◌++◌, drop, ap, rules}
use Rattle.planning.specs.Potentials.{potential}
use Rattle.planning.proofs.Leaving.{mended_draft}
use Rattle.planning.proofs.mend.begin.Goals as goal

pub returns-clause-begins : goal.returns-clause-begins
returns-clause-begins g c =
    let net = g.N.Network.meaning c.args.net.now in
    let guess = c.guess.new.amounts in
    let π = potential c.guess.new.potentials in
    let plan = c.settle.new.plan in
    let left = c.settle.new.left in
    let draft = c.args.tables.now.draft in
    record {
      amounts = guess;
      potentials = c.guess.new.potentials;
      guessed = c.guess.ensures.guessed (record { each_leg = search rules; each_station = search rules });
      made = mended_draft net c.args.standing.now guess plan π left draft _ c.settle.result c.settle.ensures.mended c.settle.ensures.left (ap (λ m. plan ++ drop m draft.amounts.now) c.legs-legs.ensures)
          (ap (λ n. left ++ drop n draft.left.now) c.stations-stations.ensures) c.settle.ensures.over;
    }
