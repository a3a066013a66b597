-- From what each part of a board promises to the rules of its calls.
use Rattle.std.proofs.Common.{◌≡◌, ℕ, ◌<◌, ◌≤◌, Bool, cond, ltb, ◌⊎◌, List, [], length, take, replicate, ℤ, Some, None, Ok, Err, Option, Result, sym, ap, ◌∙◌, subst, inl, inr, arith, le-ltb, lt-ltb}
use Rattle.std.proofs.lemmas.List.{take-replicate}
use Rattle.records.specs.Refusals.{number, place}
use Rattle.records.specs.declared.refusal.Refusal.{Refusal}
use Rattle.network.specs.Nets.{Net}
use Rattle.listing.specs.Listings.{Renews}
use Rattle.tally.specs.Answers.{listed}
use Rattle.tally.specs.Follows.{papers, Follows}
use Rattle.tally.specs.Tallies.{Tally, fresh, runs, running_list}
use Rattle.tally.specs.declared.answer.Answer.TheVariants.{Listed}
use Rattle.tally.specs.declared.call.Call.TheVariants.{ListRuns}
use Rattle.tally.proofs.Meeting.{when_accepted, when_refused}
use Rattle.tally.proofs.Written.{parts}
use Rattle.board.specs.Views.{seen}

pub new_is_fresh : (n : Net) (vs ks : List ℕ) → vs ≡ [] → ks ≡ [] → length n.legs ≤ 3000 → seen n (replicate 3000 0) vs ks ≡ fresh n
new_is_fresh n vs ks p q h =
    ap (λ (zs : List ℕ). seen n (replicate 3000 0) zs ks) p ∙ ap (λ (zs : List ℕ). seen n (replicate 3000 0) [] zs) q
    ∙ ap (λ (xs : List ℕ). let t : Tally = record { meaning = n; plan = xs; station_list = []; run_list = [] } in t) (take-replicate (length n.legs) 3000 0 h)

too_short : (k n : ℕ) → k < n → cond {A = Option (ℕ × ℕ)} (ltb k n) (Some (11, 0)) None ≡ Some (11, 0)
too_short k n h = ap (λ (b : Bool). cond {A = Option (ℕ × ℕ)} b (Some (11, 0)) None) (lt-ltb k n h)

long_enough : (k n : ℕ) → n ≤ k → cond {A = Option (ℕ × ℕ)} (ltb k n) (Some (11, 0)) None ≡ None
long_enough k n h = ap (λ (b : Bool). cond {A = Option (ℕ × ℕ)} b (Some (11, 0)) None) (le-ltb k n h)

-- the slices that a board works with are long enough, so only the one handed in can be too short
only_out : (count o k m : ℕ) → count ≤ k → count ≤ m → (o < count) ⊎ ((k < count) ⊎ (m < count)) → o < count
only_out count o k m p q (inl h) = h
only_out count o k m p q (inr (inl h)) = absurd (omega arith)
only_out count o k m p q (inr (inr h)) = absurd (omega arith)

runs_listed : (r : Result ℕ Refusal) (n : Net) (xs vs ks ks' : List ℕ) (marks marks' : List Bool) (out out' : List ℕ) (prices : List ℤ)
    → length n.legs ≤ 3000 → length n.legs ≤ length marks → Renews (runs (take (length n.legs) xs)) (length n.legs) 3000 r ks ks' marks marks' out out'
    → Follows (seen n xs vs ks) (ListRuns (length out)) (listed r) (papers prices out) (papers prices out') (seen n xs vs ks')
runs_listed (Ok r) n xs vs ks ks' marks marks' out out' prices p q l =
    let made = l.1 in
    let a = l.2 in
    let long = a.long ∙ ap length made in
    when_accepted (seen n xs vs ks) (ListRuns (length out)) (Listed r) (papers prices out) (papers prices out') (seen n xs vs ks') (long_enough (length out) (length n.legs) l.0.0)
    (ap (λ (k : ℕ). Listed k) long, ap (λ (ys : List ℕ). papers prices ys) (parts r (running_list (seen n xs vs ks)) out out' (a.list ∙ made) a.beyond long), ap (λ (zs : List ℕ). seen n xs vs zs) made)
runs_listed (Err e) n xs vs ks ks' marks marks' out out' prices p q l =
    when_refused (seen n xs vs ks) (ListRuns (length out)) e (papers prices out) (papers prices out') (seen n xs vs ks')
    (too_short (length out) (length n.legs) (only_out (length n.legs) (length out) 3000 (length marks) p q l.1) ∙ ap (λ (r : Refusal). Some (number r, place r)) (sym l.0))
    (ap (λ (ys : List ℕ). papers prices ys) l.2.2) (ap (λ (zs : List ℕ). seen n xs vs zs) l.2.0)

-- m is the count of legs
pub runs_follow : (m : ℕ) (r : Result ℕ Refusal) (n : Net) (xs vs ks ks' : List ℕ) (marks marks' : List Bool) (out out' : List ℕ) (prices : List ℤ)
    → m ≡ length n.legs → length n.legs ≤ 3000 → length n.legs ≤ length marks → Renews (runs (take m xs)) m 3000 r ks ks' marks marks' out out'
    → Follows (seen n xs vs ks) (ListRuns (length out)) (listed r) (papers prices out) (papers prices out') (seen n xs vs ks')
runs_follow m r n xs vs ks ks' marks marks' out out' prices e p q l =
    runs_listed r n xs vs ks ks' marks marks' out out' prices p q (subst (λ (z : ℕ). Renews (runs (take z xs)) z 3000 r ks ks' marks marks' out out') e l)
