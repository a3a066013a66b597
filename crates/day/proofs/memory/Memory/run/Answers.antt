use Rattle.std.proofs.Common.{◌≡◌, length, arith}
use Rattle.std.proofs.lemmas.List.{with_items_is}
use Rattle.day.proofs.Memories.{made}
use Rattle.day.proofs.memory.Memory.run.Goals as goal

pub returns : goal.returns
returns g c =
    let m = c.args.self.now in
    let now = c.run_with.new in
    let a : length now.answers ≡ m.answers.len = omega (arith, c.run_with.auto.answers, c.as_mut_slice.ensures.len) in
    let p : length now.prices ≡ m.prices.len = omega (arith, c.run_with.auto.prices, c.as_mut_slice-2.ensures.len) in
    let n : length now.numbers ≡ m.numbers.len = omega (arith, c.run_with.auto.numbers, c.as_mut_slice-3.ensures.len) in
    let x : length now.amounts ≡ m.amounts.len = omega (arith, c.run_with.auto.amounts, c.as_mut_slice-4.ensures.len) in
    rw (with_items_is m.answers now.answers a, with_items_is m.prices now.prices p, with_items_is m.numbers now.numbers n, with_items_is m.amounts now.amounts x)
    (made c.run_with.result (g.N.Network.meaning c.args.net) c.args.calls.now m _ _ _ _ _ _ _
    c.as_mut_slice.ensures.value c.as_mut_slice-2.ensures.value c.as_mut_slice-3.ensures.value c.as_mut_slice-4.ensures.value
    c.lend-tables.ensures.entries c.run_with.ensures)
