use Rattle.std.proofs.Common.{◌≡◌, ◌<◌, length, true, pos, Some, None, sym, refl, subst, ◌⊎◌, inl, inr, rules}
use Rattle.std.proofs.lemmas.Iterator.{YieldsList-from_slice}
use Rattle.std.proofs.lemmas.Iterator.Consumers.{YieldsList-so_far, YieldsList-turn, YieldsList-end}
use Rattle.std.proofs.lemmas.List.{get_or_read}
use Rattle.tally.specs.Runs.{call_at}
use Rattle.tally.specs.declared.call.Call.TheVariants.{Report}
use Rattle.board.specs.Running.{TooFew, Fits, entries}
use Rattle.board.proofs.Rooms.{Rests, all_remain, stopped, decided}
use Rattle.board.proofs.entries.suffices.Goals as goal

pub returns : goal.returns
returns c =
    let calls = c.args.calls.now in
    let m = c.args.legs in
    let a = c.try_fold.ensures.ran in
    let n = length a.0 in
    let y = YieldsList-from_slice {s = c.iter.result} calls c.iter.ensures.rest in
    let R = all_remain _ (λ p. p.0.0.now) (λ p. p.1) (λ x. x.now) m calls
    (λ p x q k. let u : Rests p.1 p.0.0.now x.now k.0 = search rules in (search rules, subst (Rests p.1 p.0.0.now x.now) k.2 u)) a.0 _ _ (YieldsList-so_far y a.0 a.4.0 a.4.1) refl a.5 in
    let end : ((n ≡ length calls) × (c.try_fold.result ≡ Some a.3)) ⊎ ((n < length calls) × TooFew a.3 (entries m (call_at calls n)) × (c.try_fold.result ≡ None)) =
    elim (stopped a.1 _ _ a.6) [
      | inl b ↦ inl ((YieldsList-end y a.0 a.4.0 a.4.1 a.1 _ b.0 a.4.2).1, b.1)
      | inr b ↦
          let t = YieldsList-turn y a.0 a.4.0 a.4.1 a.1 _ b.0 b.1 a.4.2 in
          let u : Rests a.3 a.2.0.now b.0.now b.2.0 = search rules in
          let v : TooFew a.3 (entries a.2.0.now b.0.now) = subst (Rests a.3 a.2.0.now b.0.now) b.2.4 u in
          let w : TooFew a.3 (entries m b.0.now) = subst (λ k. TooFew a.3 (entries k b.0.now)) R.0 v in
          inr (t.0, subst (λ x. TooFew a.3 (entries m x)) (get_or_read calls n b.0.now t.0 t.1 (Report 0 (pos 0))) w, b.2.5)
    ] in
    subst (λ z. (z ≡ true → Fits m calls (length calls) c.args.lent) × (Fits m calls (length calls) c.args.lent → z ≡ true)) (sym c.is_some.ensures)
    (decided m calls n c.args.lent a.3 c.try_fold.result R.1 end)
