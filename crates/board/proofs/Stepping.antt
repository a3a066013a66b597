-- One call of a run on its part of the lent memory.
use Rattle.std.proofs.Common.{◌≡◌, ℕ, ◌+◌, ◌-◌, ◌<◌, ◌≤◌, List, length, take, drop, set, ℤ, sym, refl, ap, ◌∙◌, subst, add-one, arith, length-drop, length-take}
use borrow.Rule.Slice.PartMut.{put_mid}
use Rattle.std.proofs.lemmas.Slice.{take-put_mid_below, drop-put_mid, between-put_mid}
use Rattle.network.specs.Nets.{Net}
use Rattle.tally.specs.Follows.{Papers, papers, Follows}
use Rattle.tally.specs.Runs.{Lent, call_at, prices_long, numbers_long, amounts_long, from, HandsOut, Makes}
use Rattle.tally.specs.Tallies.{Tally}
use Rattle.tally.specs.declared.answer.Answer.{Answer}
use Rattle.tally.specs.declared.call.Call.{Call}
use Rattle.tally.proofs.Growing.{sum_in, longer, run_more, beyond_call, run_none, beyond_none}
use Rattle.tally.proofs.Keeping.{legs_same}
use Rattle.planning.specs.Tables.{SameTables}
use Rattle.planning.specs.declared.tables.Tables.{Tables}
use Rattle.plans.proofs.Lending.{same_slice, slice_twice}
use Rattle.board.specs.Running.{lending, lent_by, given, SameSheet, HasRoom, Fits, Moves, MadeAll}
use Rattle.board.specs.declared.entries.Entries.{Entries}
use Rattle.board.specs.declared.sheet.Sheet.{Sheet}

-- how long a part is
part_long : {X : Type 0} (p k : ℕ) (xs : List X) {n : ℕ} → p + k ≤ length xs → n ≡ length (take k (drop p xs)) → n ≡ k
part_long p k xs h e = e ∙ (length-take k (drop p xs) ∙ omega (arith, length-drop p xs))

-- the part itself, after it was written
part_is : {X : Type 0} (p k l : ℕ) (xs ys : List X) → k ≡ l → p + k ≤ length xs → length ys ≡ k → take l (drop p (put_mid p k xs ys)) ≡ ys
part_is p k l xs ys e h n =
    let back : l ≡ (p + k) - p = omega arith in
    let room : p ≤ length xs = omega arith in
    let long : length ys ≡ (p + k) - p = omega arith in
    ap (λ (z : ℕ). take z (drop p (put_mid p k xs ys))) back ∙ between-put_mid p k xs ys (p + k) room long

part_before : {X : Type 0} (p k : ℕ) (xs ys : List X) → p + k ≤ length xs → take p (put_mid p k xs ys) ≡ take p xs
part_before p k xs ys h = let room : p ≤ length xs = omega arith in let same : p ≤ p = omega arith in take-put_mid_below p k xs ys p same room

part_beyond : {X : Type 0} (p k l : ℕ) (xs ys : List X) → k ≡ l → p + k ≤ length xs → length ys ≡ k → drop (p + l) (put_mid p k xs ys) ≡ drop (p + l) xs
part_beyond p k l xs ys e h n = let room : p ≤ length xs = omega arith in let far : p + k ≤ p + l = omega arith in drop-put_mid p k xs ys (p + l) far room n

pub stepped : (m : ℕ) (call : Call) (r : Answer) (t t' : Tally) (p q s i j k : ℕ) (ps ps' : List ℤ) (ns ns' xs xs' : List ℕ)
    → i ≡ prices_long call → j ≡ numbers_long call → k ≡ amounts_long m call → p + i ≤ length ps → q + j ≤ length ns → s + k ≤ length xs → length ps' ≡ length (take i (drop p ps)) → length ns' ≡ length (take j (drop q ns)) → length xs' ≡ length (take k (drop s xs))
    → Follows t call r (papers (take i (drop p ps)) (take j (drop q ns))) (papers ps' ns') t' → HandsOut r t'.plan (take k (drop s xs)) xs'
    → Makes m call r t t' p q s (lending ps ns xs) (lending (put_mid p i ps ps') (put_mid q j ns ns') (put_mid s k xs xs'))
stepped m call r t t' p q s i j k ps ps' ns ns' xs xs' a b c d e f u' v' w' F H = let u = part_long p i ps d u' in let v = part_long q j ns e v' in let w = part_long s k xs f w' in record {
  follows =
      let was : papers (take i (drop p ps)) (take j (drop q ns)) ≡ papers (take (prices_long call) (drop p ps)) (take (numbers_long call) (drop q ns)) =
      ap (λ (z : ℕ). papers (take z (drop p ps)) (take j (drop q ns))) a ∙ ap (λ (z : ℕ). papers (take (prices_long call) (drop p ps)) (take z (drop q ns))) b in
      let is : papers ps' ns' ≡ papers (take (prices_long call) (drop p (put_mid p i ps ps'))) (take (numbers_long call) (drop q (put_mid q j ns ns'))) =
      ap (λ (z : List ℤ). papers z ns') (sym (part_is p i (prices_long call) ps ps' a d u)) ∙ ap (papers (take (prices_long call) (drop p (put_mid p i ps ps')))) (sym (part_is q j (numbers_long call) ns ns' b e v)) in
      subst (λ (z : Papers). Follows t call r (papers (take (prices_long call) (drop p ps)) (take (numbers_long call) (drop q ns))) z t') is (subst (λ (z : Papers). Follows t call r z (papers ps' ns') t') was F);
  hands_out =
      subst (λ (z : List ℕ). HandsOut r t'.plan (take (amounts_long m call) (drop s xs)) z) (sym (part_is s k (amounts_long m call) xs xs' c f w))
      (subst (λ (z : ℕ). HandsOut r t'.plan (take z (drop s xs)) xs') c H);
  prices_before = part_before p i ps ps' d;
  numbers_before = part_before q j ns ns' e;
  amounts_before = part_before s k xs xs' f;
  prices_beyond = part_beyond p i (prices_long call) ps ps' a d u;
  numbers_beyond = part_beyond q j (numbers_long call) ns ns' b e v;
  amounts_beyond = part_beyond s k (amounts_long m call) xs xs' c f w;
}

-- the first i calls are made, and the places are those of the next
pub record Going (m : ℕ) (first last : Tally) (calls : List Call) (i : ℕ) (answers answers' : List Answer) (lent lent' : Lent) (at : Entries) : Type 0 where
  pub made : MadeAll m first last calls i answers answers' lent lent'
  pub prices : at.prices ≡ from prices_long calls i
  pub numbers : at.numbers ≡ from numbers_long calls i
  pub amounts : at.amounts ≡ from (amounts_long m) calls i
  pub legs_stay : length last.meaning.legs ≡ m

pub going_none : (meaning : Net) (first : Tally) (calls : List Call) (answers : List Answer) (lent : Lent) (at : Entries) → meaning ≡ first.meaning → at.prices ≡ 0 → at.numbers ≡ 0 → at.amounts ≡ 0
    → Going (length meaning.legs) first first calls 0 answers answers lent lent at
going_none meaning first calls answers lent at e p q r = record {
  made = record { tally = λ _. first; run = run_none _ first calls answers lent; beyond = beyond_none _ calls answers lent };
  prices = p;
  numbers = q;
  amounts = r;
  legs_stay = ap (λ (n : Net). length n.legs) (sym e);
}

-- the entries of the next call lie within the lent memory
pub has_room : (m : ℕ) (first t : Tally) (calls : List Call) (i : ℕ) (answers answers' : List Answer) (lent lent' : Lent) (at has has' : Entries) → i < length calls
    → Going m first t calls i answers answers' lent lent' at → Fits m calls (length calls) has → has' ≡ has → HasRoom (length t.meaning.legs) (call_at calls i) at has'
has_room m first t calls i answers answers' lent lent' at has has' h G F e =
    subst (λ (z : Entries). HasRoom (length t.meaning.legs) (call_at calls i) at z) (sym e) (subst (λ (z : ℕ). HasRoom z (call_at calls i) at has) (sym G.legs_stay) (record {
      prices = omega (arith, G.prices, F.prices, sum_in (λ k. prices_long (call_at calls k)) (length calls) i h);
      numbers = omega (arith, G.numbers, F.numbers, sum_in (λ k. numbers_long (call_at calls k)) (length calls) i h);
      amounts = omega (arith, G.amounts, F.amounts, sum_in (λ k. amounts_long m (call_at calls k)) (length calls) i h);
      stations = F.stations i h;
      legs = F.legs i h;
    }))

pub going_more : (m : ℕ) (first t t' : Tally) (calls : List Call) (i : ℕ) (answers answers' : List Answer) (x : Answer) (lent l l' : Lent) (at at' : Entries) → i < length answers'
    → Going m first t calls i answers answers' lent l at → Makes (length t.meaning.legs) (call_at calls i) x t t' at.prices at.numbers at.amounts l l'
    → Moves (length t.meaning.legs) (call_at calls i) at at' → Going m first t' calls (i + 1) answers (set answers' i x) lent l' at'
going_more m first t t' calls i answers answers' x lent l l' at at' h G M V =
    let M₁ = subst (λ (z : ℕ). Makes z (call_at calls i) x t t' at.prices at.numbers at.amounts l l') G.legs_stay M in
    let M₂ = subst (λ (z : ℕ). Makes m (call_at calls i) x t t' z at.numbers at.amounts l l') G.prices M₁ in
    let M₃ = subst (λ (z : ℕ). Makes m (call_at calls i) x t t' (from prices_long calls i) z at.amounts l l') G.numbers M₂ in
    let M₄ = subst (λ (z : ℕ). Makes m (call_at calls i) x t t' (from prices_long calls i) (from numbers_long calls i) z l l') G.amounts M₃ in
    let V₁ = subst (λ (z : ℕ). Moves z (call_at calls i) at at') G.legs_stay V in
    subst (λ (z : ℕ). Going m first t' calls z answers (set answers' i x) lent l' at') (sym (add-one i)) (record {
      made = record {
        tally = longer G.made.tally i t';
        run = run_more m first t t' calls i answers answers' x lent l l' G.made.tally h G.made.run G.made.beyond M₄;
        beyond = beyond_call m first t t' calls i answers answers' x lent l l' G.made.tally G.made.beyond M₄;
      };
      prices = V₁.prices ∙ ap (λ (z : ℕ). z + prices_long (call_at calls i)) G.prices;
      numbers = V₁.numbers ∙ ap (λ (z : ℕ). z + numbers_long (call_at calls i)) G.numbers;
      amounts = V₁.amounts ∙ ap (λ (z : ℕ). z + amounts_long m (call_at calls i)) G.amounts;
      legs_stay = legs_same t (call_at calls i) x _ _ t' M.follows ∙ G.legs_stay;
    })

-- from a place on to the place so much further
pub back : (p : ℕ) {k l : ℕ} → k ≡ l → (p + k) - p ≡ l
back p e = omega arith

pub within : (p : ℕ) {k l n : ℕ} → k ≡ l → p + l ≤ n → p + ((p + k) - p) ≤ n
within p e h = omega arith

-- slices that stay the same
pub same_sheet : (a : Sheet) → SameSheet a a
same_sheet a = record { prices = same_slice a.prices; numbers = same_slice a.numbers; amounts = same_slice a.amounts }

pub sheet_twice : {a b c : Sheet} → SameSheet a b → SameSheet b c → SameSheet a c
sheet_twice p q = record { prices = slice_twice p.prices q.prices; numbers = slice_twice p.numbers q.numbers; amounts = slice_twice p.amounts q.amounts }

pub given_stays : {s s' : Sheet} {t t' : Tables} → SameSheet s s' → SameTables t t' → given (lent_by s') t' ≡ given (lent_by s) t
given_stays {s} {s'} {t} {t'} p q =
    rw (
      p.prices.long,
      p.numbers.long,
      p.amounts.long,
      q.draft.amounts.long,
      q.draft.left.long,
      q.potentials.long,
      q.simplex.lower.long,
      q.simplex.upper.long,
      q.simplex.nodes.long,
      q.simplex.potentials.long,
      q.simplex.best.long,
      q.marks.long,
      q.labels.long,
      q.cents.long,
      q.chains.heads.long,
      q.chains.nexts.long,
      q.queue.heap.long,
      q.queue.places.long,
    ) refl
