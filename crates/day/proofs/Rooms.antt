-- What the calls take, one after the other.
use Rattle.std.proofs.Common.{◌≡◌, ℕ, suc, ◌+◌, ◌≤◌, List, subst, inl, inr, arith, below_more}
use Rattle.tally.specs.Runs.{call_at}
use Rattle.tally.specs.declared.call.Call.{Call}
use Rattle.board.specs.Running.{stations_long, legs_long, entries, Fits}
use Rattle.board.specs.declared.entries.Entries.{Entries}
use Rattle.day.specs.Memories.{Both, most_lent}

-- what is taken suffices for the first i calls, if the most does
abbrev pub Covers : ℕ → List Call → ℕ → Entries → Type 0
Covers m calls i taken = Fits m calls i most_lent → Fits m calls i taken

fewer : (m : ℕ) (calls : List Call) (i : ℕ) → Fits m calls (suc i) most_lent → Fits m calls i most_lent
fewer m calls i f = record {
  prices = omega (arith, f.prices);
  numbers = omega (arith, f.numbers);
  amounts = omega (arith, f.amounts);
  stations = λ k h. f.stations k (omega (arith, h));
  legs = λ k h. f.legs k (omega (arith, h));
}

covers_next : (m : ℕ) (calls : List Call) (i : ℕ) (a r : Entries) → Covers m calls i a → Both a (entries m (call_at calls i)) r → Covers m calls (suc i) r
covers_next m calls i a r covers b f =
    let c = covers (fewer m calls i f) in
    record {
      prices = b.prices _ f.prices (omega (arith, c.prices));
      numbers = b.numbers _ f.numbers (omega (arith, c.numbers));
      amounts = b.amounts _ f.amounts (omega (arith, c.amounts));
      stations = λ k h. below_more (λ j. stations_long (call_at calls j) ≤ r.stations) i (λ j l. b.stations _ (f.stations j (omega (arith, l))) (inl (c.stations j l))) (b.stations _ (f.stations i (omega arith)) (inr (omega arith))) k (omega (arith, h));
      legs = λ k h. below_more (λ j. legs_long (call_at calls j) ≤ r.legs) i (λ j l. b.legs _ (f.legs j (omega (arith, l))) (inl (c.legs j l))) (b.legs _ (f.legs i (omega arith)) (inr (omega arith))) k (omega (arith, h));
    }

pub covers_more : (m : ℕ) (calls : List Call) (i : ℕ) (a r : Entries) → Covers m calls i a → Both a (entries m (call_at calls i)) r → Covers m calls (i + 1) r
covers_more m calls i a r covers b =
    let e : suc i ≡ i + 1 = omega arith in
    subst (λ k. Covers m calls k r) e (covers_next m calls i a r covers b)
