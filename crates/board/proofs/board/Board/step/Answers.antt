use Rattle.std.proofs.Common.{◌≡◌, ℕ, length, ap, ◌∙◌}
use Rattle.tally.specs.Runs.{prices_long, numbers_long, amounts_long}
use Rattle.board.specs.declared.entries.Entries.{Entries}
use Rattle.board.proofs.Stepping.{stepped, back, within}
use Rattle.board.proofs.board.Board.step.Goals as goal

pub returns-clause-makes : goal.returns-clause-makes
returns-clause-makes g c =
    let m = length (g.N.Network.meaning c.args.self.now.net).legs in
    let at = c.args.at.now in
    let taken = c.of_call-taken.result in
    let i : taken.prices ≡ prices_long c.args.call = ap (λ (e : Entries). e.prices) c.of_call-taken.ensures in
    let j : taken.numbers ≡ numbers_long c.args.call = ap (λ (e : Entries). e.numbers) c.of_call-taken.ensures in
    let k : taken.amounts ≡ amounts_long m c.args.call = ap (λ (e : Entries). e.amounts) c.of_call-taken.ensures ∙ ap (λ (z : ℕ). amounts_long z c.args.call) c.legs.ensures in
    stepped m c.args.call c.make.result _ _ at.prices at.numbers at.amounts _ _ _ c.args.sheet.now.prices.now c.make.new.prices c.args.sheet.now.numbers.now c.make.new.numbers c.args.sheet.now.amounts.now c.make.new.amounts
    (back at.prices i) (back at.numbers j) (back at.amounts k) (within at.prices i c.requires.prices) (within at.numbers j c.requires.numbers) (within at.amounts k c.requires.amounts)
    c.make.auto.prices c.make.auto.numbers c.make.auto.amounts c.make.ensures.rules c.make.ensures.hands
