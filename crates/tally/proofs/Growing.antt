-- One call more of a run.
use Rattle.std.proofs.Common.{◌≡◌, ℕ, zero, suc, ◌+◌, ◌<◌, ◌≤◌, Bool, cond, ltb, List, length, take, drop, set, ℤ, sym, refl, ap, ◌∙◌, subst, add-one, arith, get_or-set_other, get_or-set_same, below_more, le-ltb, lt-ltb}
use Rattle.std.proofs.lemmas.List.{drop-drop, drop-take, take-take, drop-set-lt}
use Rattle.plans.specs.Plans.{sum_below}
use Rattle.tally.specs.Tallies.{Tally}
use Rattle.tally.specs.Follows.{Papers, papers, Follows}
use Rattle.tally.specs.Runs.{Lent, call_at, answer_at, prices_long, numbers_long, amounts_long, from, part, papers_at, amounts_at, HandsOut, Makes, Beyond, Run}
use Rattle.tally.specs.declared.answer.Answer.{Answer}
use Rattle.tally.specs.declared.answer.Answer.TheVariants.{Done}
use Rattle.tally.specs.declared.call.Call.{Call}

-- entries before a place stay if all before that place do
part_before : {X : Type 0} (q k p : ℕ) (xs zs : List X) → q + k ≤ p → take p zs ≡ take p xs → take k (drop q zs) ≡ take k (drop q xs)
part_before q k p xs zs h e =
    sym (drop-take q k zs) ∙ (ap (drop q) (sym (take-take (q + k) p zs h) ∙ (ap (take (q + k)) e ∙ take-take (q + k) p xs h)) ∙ drop-take q k xs)

beyond_more : {X : Type 0} (p l : ℕ) (xs ys : List X) → drop p xs ≡ drop p ys → drop (p + l) xs ≡ drop (p + l) ys
beyond_more p l xs ys e = sym (drop-drop l p xs) ∙ (ap (drop l) e ∙ drop-drop l p ys)

-- the entries of a call end where those of a later one begin, or before
pub sum_in : (f : ℕ → ℕ) (i k : ℕ) → k < i → sum_below k f + f k ≤ sum_below i f
sum_in f zero k h = absurd (omega arith)
sum_in f (suc j) k h = below_more (λ (x : ℕ). sum_below x f + f x ≤ sum_below (suc j) f) j (λ x l. omega (arith, sum_in f j x l)) (omega arith) k (omega arith)

-- the tallies with one more at the end
abbrev pub longer : (ℕ → Tally) → ℕ → Tally → ℕ → Tally
longer tally i t k = cond (ltb i k) t (tally k)

pub longer_old : (tally : ℕ → Tally) (i : ℕ) (t : Tally) (k : ℕ) → k ≤ i → longer tally i t k ≡ tally k
longer_old tally i t k h = ap (λ (b : Bool). cond b t (tally k)) (le-ltb i k h)

pub longer_new : (tally : ℕ → Tally) (i : ℕ) (t : Tally) → longer tally i t (suc i) ≡ t
longer_new tally i t = let h : i < suc i = omega arith in ap (λ (b : Bool). cond b t (tally (suc i))) (lt-ltb i (suc i) h)

-- one of the lists of entries, before and after the call
part_old : {X : Type 0} (long : Call → ℕ) (calls : List Call) (i k : ℕ) (xs zs : List X) → k < i → take (from long calls i) zs ≡ take (from long calls i) xs → part long calls zs k ≡ part long calls xs k
part_old long calls i k xs zs h e = part_before (from long calls k) (long (call_at calls k)) (from long calls i) xs zs (sum_in (λ j. long (call_at calls j)) i k h) e

answer_old : (answers : List Answer) (i k : ℕ) (x : Answer) → k < i → answer_at (set answers i x) k ≡ answer_at answers k
answer_old answers i k x h = let ne : k ≡ i → ⊥ = λ e. omega (arith, e) in get_or-set_other answers i k x Done ne

move_follows : {t u : Tally} {call : Call} {x y : Answer} {p q p' q' : Papers} {t' u' : Tally} → t ≡ u → x ≡ y → p ≡ q → p' ≡ q' → t' ≡ u' → Follows t call x p p' t' → Follows u call y q q' u'
move_follows a b c d e F = rw (sym a, sym b, sym c, sym d, sym e) F

move_hands : {x y : Answer} {plan plan' xs xs' ys ys' : List ℕ} → x ≡ y → plan ≡ plan' → xs ≡ xs' → ys ≡ ys' → HandsOut x plan xs ys → HandsOut y plan' xs' ys'
move_hands a b c d h = rw (sym a, sym b, sym c, sym d) h

module _ (m : ℕ) (first t t' : Tally) (calls : List Call) (i : ℕ) (answers₀ answers : List Answer) (x : Answer) (l₀ l l' : Lent) (tally : ℕ → Tally) where
  old_papers : Makes m (call_at calls i) x t t' (from prices_long calls i) (from numbers_long calls i) (from (amounts_long m) calls i) l l' → (k : ℕ) → k < i → papers_at calls l' k ≡ papers_at calls l k
  old_papers M k h =
      ap (λ (ps : List ℤ). papers ps (part numbers_long calls l'.numbers k)) (part_old prices_long calls i k l.prices l'.prices h M.prices_before)
      ∙ ap (λ (ns : List ℕ). papers (part prices_long calls l.prices k) ns) (part_old numbers_long calls i k l.numbers l'.numbers h M.numbers_before)

  new_papers : Beyond m calls i answers₀ answers l₀ l → papers_at calls l₀ i ≡ papers_at calls l i
  new_papers B =
      ap (λ (ps : List ℤ). papers (take (prices_long (call_at calls i)) ps) (part numbers_long calls l₀.numbers i)) (sym B.prices_stay)
      ∙ ap (λ (ns : List ℕ). papers (part prices_long calls l.prices i) (take (numbers_long (call_at calls i)) ns)) (sym B.numbers_stay)

  new_amounts : Beyond m calls i answers₀ answers l₀ l → amounts_at m calls l₀ i ≡ amounts_at m calls l i
  new_amounts B = ap (take (amounts_long m (call_at calls i))) (sym B.amounts_stay)

  pub run_more : i < length answers → Run m first t calls i answers l₀ l tally → Beyond m calls i answers₀ answers l₀ l
      → Makes m (call_at calls i) x t t' (from prices_long calls i) (from numbers_long calls i) (from (amounts_long m) calls i) l l'
      → Run m first t' calls (suc i) (set answers i x) l₀ l' (longer tally i t')
  run_more h R B M = record {
    begins = longer_old tally i t' 0 (omega arith) ∙ R.begins;
    ends = longer_new tally i t';
    follows = λ k b. below_more (λ (j : ℕ). Follows (longer tally i t' j) (call_at calls j) (answer_at (set answers i x) j) (papers_at calls l₀ j) (papers_at calls l' j) (longer tally i t' (suc j))) i
        (λ j c. move_follows (sym (longer_old tally i t' j (omega (arith, c)))) (sym (answer_old answers i j x c)) refl (sym (old_papers M j c)) (sym (longer_old tally i t' (suc j) (omega (arith, c)))) (R.follows j c))
        (move_follows (sym R.ends ∙ sym (longer_old tally i t' i (omega arith))) (sym (get_or-set_same answers i x Done h)) (sym (new_papers B)) refl (sym (longer_new tally i t')) M.follows)
        k (omega (arith, b));
    hands_out = λ k b. below_more (λ (j : ℕ). HandsOut (answer_at (set answers i x) j) (longer tally i t' (suc j)).plan (amounts_at m calls l₀ j) (amounts_at m calls l' j)) i
        (λ j c. move_hands (sym (answer_old answers i j x c)) (ap (λ (u : Tally). u.plan) (sym (longer_old tally i t' (suc j) (omega (arith, c))))) refl (sym (part_old (amounts_long m) calls i j l.amounts l'.amounts c M.amounts_before)) (R.hands_out j c))
        (move_hands (sym (get_or-set_same answers i x Done h)) (ap (λ (u : Tally). u.plan) (sym (longer_new tally i t'))) (sym (new_amounts B)) refl M.hands_out)
        k (omega (arith, b));
  }

  pub beyond_call : Beyond m calls i answers₀ answers l₀ l
      → Makes m (call_at calls i) x t t' (from prices_long calls i) (from numbers_long calls i) (from (amounts_long m) calls i) l l'
      → Beyond m calls (suc i) answers₀ (set answers i x) l₀ l'
  beyond_call B M = record {
    answers_stay = drop-set-lt (suc i) answers i x (omega arith) ∙ (subst (λ (z : ℕ). drop z answers ≡ drop z answers₀) (add-one i) (beyond_more i 1 answers answers₀ B.answers_stay));
    prices_stay = M.prices_beyond ∙ beyond_more (from prices_long calls i) (prices_long (call_at calls i)) l.prices l₀.prices B.prices_stay;
    numbers_stay = M.numbers_beyond ∙ beyond_more (from numbers_long calls i) (numbers_long (call_at calls i)) l.numbers l₀.numbers B.numbers_stay;
    amounts_stay = M.amounts_beyond ∙ beyond_more (from (amounts_long m) calls i) (amounts_long m (call_at calls i)) l.amounts l₀.amounts B.amounts_stay;
  }

-- before the first call
pub run_none : (m : ℕ) (first : Tally) (calls : List Call) (answers : List Answer) (l : Lent) → Run m first first calls 0 answers l l (λ _. first)
run_none m first calls answers l = record { begins = refl; ends = refl; follows = λ i h. absurd (omega (arith, h)); hands_out = λ i h. absurd (omega (arith, h)) }

pub beyond_none : (m : ℕ) (calls : List Call) (answers : List Answer) (l : Lent) → Beyond m calls 0 answers answers l l
beyond_none m calls answers l = record { answers_stay = refl; prices_stay = refl; numbers_stay = refl; amounts_stay = refl }
