-- What a run makes of the memory that it is lent.
use Rattle.std.proofs.Common.{◌≡◌, ℕ, ◌≤◌, List, length, ℤ, Ok, Err, Result, sym, ap, ◌∙◌, subst, arith}
use Rattle.records.specs.declared.refusal.Refusal.{Refusal}
use Rattle.network.specs.Nets.{Net}
use Rattle.planning.specs.declared.tables.Tables.{Tables}
use Rattle.tally.specs.Tallies.{Tally, fresh}
use Rattle.tally.specs.Runs.{Lent, WholeRun}
use Rattle.tally.specs.declared.answer.Answer.{Answer}
use Rattle.tally.specs.declared.call.Call.{Call}
use Rattle.board.specs.Running.{Fits, WholeRan, given, lending}
use Rattle.board.specs.declared.entries.Entries.{Entries}
use Rattle.workspace.specs.Entries.{Holds, HasEntries}
use Rattle.day.specs.Memories.{Made, Suffices, handed_by, most_lent}
use Rattle.day.specs.declared.memory.Memory.{Memory}

module _ (legs : ℕ) (calls : List Call) (m : Memory) (tables : Tables) (prices : List ℤ) (numbers amounts : List ℕ)
    (ep : prices ≡ m.prices.items) (en : numbers ≡ m.numbers.items) (ea : amounts ≡ m.amounts.items) (l : (stations legs : ℕ) → Holds stations legs m.workspace → HasEntries stations legs tables) where
  -- as much is lent as the calls take
  lent_room : (s : Suffices legs calls m) → given (lending prices numbers amounts) tables ≡ s.room
  lent_room s =
      let has : Entries = given (lending prices numbers amounts) tables in
      let entries = l s.room.stations s.room.legs s.workspace in
      let p : has.prices ≡ s.room.prices = ap length ep ∙ s.prices in
      let n : has.numbers ≡ s.room.numbers = ap length en ∙ s.numbers in
      let a : has.amounts ≡ s.room.amounts = ap length ea ∙ s.amounts in
      λ i. record { prices = p i; numbers = n i; amounts = a i; stations = entries.for_stations i; legs = entries.for_legs i }

  lent_fits : Suffices legs calls m → Fits legs calls (length calls) most_lent → Fits legs calls (length calls) (given (lending prices numbers amounts) tables)
  lent_fits s f = subst (Fits legs calls (length calls)) (sym (lent_room s)) (s.fits f)

pub made : (r : Result (Unit {0}) Refusal) (net : Net) (calls : List Call) (m : Memory) (tables : Tables)
    (prices : List ℤ) (numbers amounts : List ℕ) (before after : List Answer) (handed : Lent)
    → before ≡ m.answers.items → prices ≡ m.prices.items → numbers ≡ m.numbers.items → amounts ≡ m.amounts.items → ((stations legs : ℕ) → Holds stations legs m.workspace → HasEntries stations legs tables)
    → (last : Tally) × WholeRan r (given (lending prices numbers amounts) tables) (fresh net) last calls before after (lending prices numbers amounts) handed
    → Made r net calls m after handed
made (Ok u) net calls m tables prices numbers amounts before after handed eb ep en ea l w =
    let R : List Answer → Lent → Type 0 = λ b k. WholeRun (length net.legs) (fresh net) w.0 calls b after k handed in
    let lent : lending prices numbers amounts ≡ handed_by m = λ i. lending (ep i) (en i) (ea i) in
    record {
      last = w.0;
      tables = tables;
      enough = subst (λ b. length calls ≤ length b) eb w.1.0;
      fits = subst (λ k. Fits (length net.legs) calls (length calls) (given k tables)) lent w.1.1;
      run = subst (λ b. R b (handed_by m)) eb (subst (R before) lent w.1.2);
    }
made (Err f) net calls m tables prices numbers amounts before after handed eb ep en ea l w = (
  w.1.0,
  λ s fits.
      let same : length before ≡ length m.answers.items = ap length eb in
      w.1.1 (omega (arith, s.answers, same)) (lent_fits (length net.legs) calls m tables prices numbers amounts ep en ea l s fits),
)
