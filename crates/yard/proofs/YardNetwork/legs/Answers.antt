use Rattle.std.proofs.Common.{ℕ, ◌+◌, ◌*◌, length, ap, ◌∙◌}
use Rattle.yard.proofs.Answered.{at_counts, legs_room}
use Rattle.yard.proofs.YardNetwork.legs.Goals as goal

pub returns-else-is_full : goal.returns-else-is_full
returns-else-is_full g c =
    let n = g.N.Network.meaning c.args.self.now.below in
    ap (λ (x : ℕ). x + 2 * c.stations-stations.result) c.legs-legs.ensures
    ∙ ap (λ (x : ℕ). length n.legs + 2 * x) c.stations-stations.ensures
    ∙ legs_room c.args.self.now.charge n (at_counts _ _ _ n c.stations-stations.ensures c.legs-legs.ensures c.if-is_full.ensures)
