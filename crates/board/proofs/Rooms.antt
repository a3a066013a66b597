-- What is left of the lent memory, call by call.
use Rattle.std.proofs.Common.{◌≡◌, ℕ, suc, ◌+◌, ◌<◌, ◌≤◌, true, List, [], ◌∷◌, length, get_or, map, take, pos, Some, None, Option, sym, refl, ap, ◌∙◌, subst, ◌⊎◌, inl, inr, arith, below_more}
use Rattle.std.specs.List.{FoldsTo}
use Rattle.std.specs.Option.{is_some, MatchOption}
use Rattle.std.proofs.lemmas.List.{get_or-take}
use Rattle.std.proofs.lemmas.Bool.{both_ways}
use Rattle.tally.specs.Runs.{call_at, prices_long, numbers_long, amounts_long, from}
use Rattle.tally.specs.declared.call.Call.{Call}
use Rattle.tally.specs.declared.call.Call.TheVariants.{Report}
use Rattle.tally.proofs.Growing.{sum_in}
use Rattle.board.specs.Running.{stations_long, legs_long, entries, TooFew, Left, Fits}
use Rattle.board.specs.declared.entries.Entries.{Entries}

-- after i calls
pub record Remains (m : ℕ) (calls : List Call) (i : ℕ) (lent left : Entries) : Type 0 where
  pub prices : left.prices + from prices_long calls i ≡ lent.prices
  pub numbers : left.numbers + from numbers_long calls i ≡ lent.numbers
  pub amounts : left.amounts + from (amounts_long m) calls i ≡ lent.amounts
  pub stations : left.stations ≡ lent.stations
  pub legs : left.legs ≡ lent.legs
  pub stations_suffice : (k : ℕ) → k < i → stations_long (call_at calls k) ≤ lent.stations
  pub legs_suffice : (k : ℕ) → k < i → legs_long (call_at calls k) ≤ lent.legs

-- what is left once a call has taken its entries, or that it finds too few
abbrev pub Rests : Entries → ℕ → Call → Option Entries → Type 0
Rests left m call rest = MatchOption rest (TooFew left (entries m call)) (Left left (entries m call))

remains_more : (m : ℕ) (calls : List Call) (i : ℕ) (lent left rest : Entries) → Remains m calls i lent left → Left left (entries m (call_at calls i)) rest → Remains m calls (suc i) lent rest
remains_more m calls i lent left rest R L = record {
  prices = omega (arith, R.prices, L.prices);
  numbers = omega (arith, R.numbers, L.numbers);
  amounts = omega (arith, R.amounts, L.amounts);
  stations = L.stations ∙ R.stations;
  legs = L.legs ∙ R.legs;
  stations_suffice = λ k h. below_more (λ j. stations_long (call_at calls j) ≤ lent.stations) i R.stations_suffice (omega (arith, L.stations_suffice, R.stations)) k (omega (arith, h));
  legs_suffice = λ k h. below_more (λ j. legs_long (call_at calls j) ≤ lent.legs) i R.legs_suffice (omega (arith, L.legs_suffice, R.legs)) k (omega (arith, h));
}

-- turns over calls that each leave a rest, where there are as many legs as each turn sees
module _ {P A : Type 0} (turn : P → A → P → Type 0) (legs : P → ℕ) (left : P → Entries) (shown : A → Call) (m : ℕ) (calls : List Call)
    (each : (p : P) (x : A) (q : P) → turn p x q → (legs q ≡ legs p) × Left (left p) (entries (legs p) (shown x)) (left q)) where
  -- from the call at i on, up to the one at n
  remain_from : (lent : Entries) (i n : ℕ) (xs : List A) (p q : P) → n ≡ i + length xs → ((k : ℕ) → k < length xs → call_at calls (i + k) ≡ get_or (map shown xs) k (Report 0 (pos 0)))
      → legs p ≡ m → Remains m calls i lent (left p) → FoldsTo turn p xs q → (legs q ≡ m) × Remains m calls n lent (left q)
  remain_from lent i n [] p q e h l R f =
      let b : i ≡ n = omega (arith, e) in
      subst (λ z. (legs z ≡ m) × Remains m calls n lent (left z)) f (l, subst (λ z. Remains m calls z lent (left p)) b R)
  remain_from lent i n (x ∷ xs) p q e h l R f =
      let z : i ≡ i + 0 = omega arith in
      let a : call_at calls i ≡ shown x = ap (call_at calls) z ∙ h 0 (omega arith) in
      let t = each p x f.0 f.1 in
      let L : Left (left p) (entries m (call_at calls i)) (left f.0) = subst (λ c. Left (left p) (entries m c) (left f.0)) (sym a) (subst (λ k. Left (left p) (entries k (shown x)) (left f.0)) l t.1) in
      remain_from lent (suc i) n xs f.0 q (omega (arith, e)) (λ k b. let c : suc i + k ≡ i + suc k = omega arith in ap (call_at calls) c ∙ h (suc k) (omega (arith, b)))
      (t.0 ∙ l) (remains_more m calls i lent (left p) (left f.0) R L) f.2

  -- the first calls
  pub all_remain : (xs : List A) (p q : P) → map shown xs ≡ take (length xs) calls → legs p ≡ m → FoldsTo turn p xs q → (legs q ≡ m) × Remains m calls (length xs) (left p) (left q)
  all_remain xs p q e l f =
      remain_from (left p) 0 (length xs) xs p q (omega arith)
      (λ k h. let z : 0 + k ≡ k = omega arith in ap (call_at calls) z ∙ sym (ap (λ cs. get_or cs k (Report 0 (pos 0))) e ∙ get_or-take (length xs) calls k (Report 0 (pos 0)) h)) l (record {
        prices = omega arith;
        numbers = omega arith;
        amounts = omega arith;
        stations = refl;
        legs = refl;
        stations_suffice = λ k h. absurd (omega (arith, h));
        legs_suffice = λ k h. absurd (omega (arith, h));
      }) f

-- a run of turns over the calls came to its end, or was broken off at a call
pub stopped : {X : Type 0} (o : Option X) (P : Type 0) (Q : X → Type 0) → MatchOption o P Q → ((o ≡ None) × P) ⊎ ((x : X) × (o ≡ Some x) × Q x)
stopped None P Q h = inl (refl, h)
stopped (Some x) P Q h = inr (x, refl, h)

-- where one call finds too few, not all are served
too_few : (m : ℕ) (calls : List Call) (i : ℕ) (lent left : Entries) → i < length calls → Remains m calls i lent left → TooFew left (entries m (call_at calls i)) → Fits m calls (length calls) lent → ⊥
too_few m calls i lent left h R (inl s) F = omega (arith, R.prices, F.prices, sum_in (λ k. prices_long (call_at calls k)) (length calls) i h, s)
too_few m calls i lent left h R (inr (inl s)) F = omega (arith, R.numbers, F.numbers, sum_in (λ k. numbers_long (call_at calls k)) (length calls) i h, s)
too_few m calls i lent left h R (inr (inr (inl s))) F = omega (arith, R.amounts, F.amounts, sum_in (λ k. amounts_long m (call_at calls k)) (length calls) i h, s)
too_few m calls i lent left h R (inr (inr (inr (inl s)))) F = omega (arith, R.stations, F.stations i h, s)
too_few m calls i lent left h R (inr (inr (inr (inr s)))) F = omega (arith, R.legs, F.legs i h, s)

-- all calls leave a rest, or the one at n finds too few
pub decided : (m : ℕ) (calls : List Call) (n : ℕ) (lent left : Entries) (r : Option Entries) → Remains m calls n lent left
    → ((n ≡ length calls) × (r ≡ Some left)) ⊎ ((n < length calls) × TooFew left (entries m (call_at calls n)) × (r ≡ None))
    → (is_some r ≡ true → Fits m calls (length calls) lent) × (Fits m calls (length calls) lent → is_some r ≡ true)
decided m calls n lent left r R (inl a) =
    let F : Fits m calls n lent = record {
      prices = omega (arith, R.prices);
      numbers = omega (arith, R.numbers);
      amounts = omega (arith, R.amounts);
      stations = R.stations_suffice;
      legs = R.legs_suffice;
    } in
    (λ _. subst (λ z. Fits m calls z lent) a.0 F, λ _. ap is_some a.1)
decided m calls n lent left r R (inr a) = (λ y. absurd (both_ways true (sym y ∙ ap is_some a.2) refl), λ F. absurd (too_few m calls n lent left a.0 R a.1 F))
