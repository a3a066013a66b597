-- How a planning begins and ends.
use Rattle.std.proofs.Common.{◌≡◌, ℕ, zero, suc, ◌<◌, ◌≤◌, min, List, [], ◌∷◌, length, take, fold, ℤ, pos, negsuc, ◌≤ℤ◌, None, Ok, Err, Result, sym, refl, inl, inr, arith}
use native.Mathlib.Decide.{ℕ_discrete}
use borrow.Author.Differences.{ints}
use Rattle.std.proofs.lemmas.List.{get_or-take, length-take-le}
use Rattle.std.specs.List.{AllByRecursion}
use Rattle.network.specs.Nets.{Net, Within}
use Rattle.plans.specs.Plans.{stations, balance_at, sum_below, cents, difference, EndsBelow, CheapestThenNearest}
use Rattle.plans.specs.Cuts.{Cut, left_over}
use Rattle.plans.proofs.Best
use Rattle.plans.proofs.Around.{no_cents_trip}
use Rattle.plans.proofs.Cutting
use Rattle.certificates.specs.Totals.{over, total_below}
use Rattle.certificates.proofs.Mending
use Rattle.certificates.proofs.Balanced
use Rattle.planning.specs.declared.draft.Draft.{Draft}
use Rattle.planning.specs.Mends.{MendedDraft}
use Rattle.records.specs.declared.refusal.Refusal.{Refusal}
use Rattle.planning_rules.specs.declared.lengths.Lengths.{Lengths}
use Rattle.planning_rules.specs.Checks.{planning_fault}
use Rattle.planning_rules.proofs.Passing
use Rattle.search.specs.Labels.{unlabelled}
use Rattle.search.specs.declared.label.Label.{Label}
use Rattle.search.specs.declared.outcome.Outcome.{Outcome}
use Rattle.search.specs.declared.outcome.Outcome.TheVariants.{Settled, RoundTrip}
use Rattle.prices.specs.Priced.{Written}
use Rattle.prices.specs.Queues.{TooShort}
use Rattle.planning.specs.Sends.{Both}
use Rattle.planning_rules.specs.Answers.{Accepted, Impossible, Planned}
use Rattle.planning.specs.States.{Finishes}
use Rattle.planning.specs.Tables.{SameTables, shortest, station_lengths, leg_lengths, lengths_of}
use Rattle.planning.specs.Reached.{reached_below, WritesCut}
use Rattle.planning_rules.specs.Answers.{the_plan}
use Rattle.planning.specs.States.{Prepared, Underway}
use Rattle.planning.specs.declared.tables.Tables.{Tables}
use Rattle.planning.proofs.Turning.{never_short}

-- ---- the beginning
pub begins : (net : Net) (standing guess : List ℕ) (π : ℕ → ℤ × ℤ) (before after : Draft) (total : ℕ) → MendedDraft net standing guess π before after total → Underway net standing after total
begins net standing guess π before after total b =
    record {
      tracks = record { fits = Mending.fits net standing guess _ π b.mended; left_overs = b.left_each };
      over_all = b.over_all;
      potential = π;
      certified = Mending.certified net standing guess _ π b.mended;
    }

-- ---- the end
no_part : (m : ℕ) (g : ℕ → ℕ) → sum_below m g ≡ 0 → (v : ℕ) → v < m → g v ≡ 0
no_part zero g e v h = absurd (omega arith)
no_part (suc m) g e v h = elim (ℕ_discrete v m) [ yes p ↦ rw p (omega (arith, e)) | no p ↦ no_part m g (omega (arith, e)) v (omega arith) ]

none_over : (z : ℤ) → over z ≡ 0 → z ≤ℤ pos 0
none_over (pos a) e = omega (arith, ints, e)
none_over (negsuc a) e = omega (arith, ints)

-- nothing is over, so the plan obeys; it is certified, so it is the best
finished : (net : Net) (standing : List ℕ) (draft : Draft) → EndsBelow net → total_below (stations net) (balance_at net) ≡ pos 0 → Underway net standing draft 0 → CheapestThenNearest net standing (the_plan net draft.amounts.now)
finished net standing draft e t u =
    let plan = the_plan net draft.amounts.now in
    let low : (v : ℕ) → v < stations net → left_over net plan v ≤ℤ pos 0 = λ v h. none_over (left_over net plan v) (no_part (stations net) (λ w. over (left_over net plan w)) (sym u.over_all) v h) in
    Best.best net standing plan u.potential e (Balanced.none_over net plan e u.tracks.fits t low) u.certified

-- of the best plan, prices are written: no round trip totals below zero
pub accepted : (net : Net) (standing plan amounts : List ℕ) (o : Outcome) (ps ps' : List ℤ) → plan ≡ the_plan net amounts → CheapestThenNearest net standing (the_plan net amounts) → Written net plan o ps ps'
    → (c d : ℕ) → c ≡ cents net plan → d ≡ difference net standing plan → length ps' ≡ length ps → (cut : List ℕ) → Accepted net standing (the_plan net amounts) c d ps ps' cut cut
accepted net standing plan amounts Settled ps ps' e b w c d x y k cut =
    let w' : Written net (the_plan net amounts) Settled ps ps' = rw e at w in
    record { best = b; costs = rw e at x; differs = rw e at y; priced = w'.1; prices_beyond = w'.2; prices_as_long = λ h. k; cut_stays = refl }
accepted net standing plan amounts RoundTrip ps ps' e b w c d x y k cut =
    let w' : Written net (the_plan net amounts) RoundTrip ps ps' = rw e at w in absurd (no_cents_trip net standing (the_plan net amounts) b w'.0)

-- the first n labels say what all do of the stations below n
reached_taken : (n i : ℕ) (ls : List (Label Both)) → i ≤ n → reached_below (take n ls) i ≡ reached_below ls i
reached_taken n zero ls h = refl
reached_taken n (suc i) ls h = rw (reached_taken n i ls (omega (arith, h)), get_or-take n ls i unlabelled (omega (arith, h))) refl

-- the cut that is written shows that no plan obeys
pub impossible : (net : Net) (count : ℕ) (ls : List (Label Both)) (prices : List ℤ) (cut cut' : List ℕ) → EndsBelow net → stations net ≤ length cut → stations net ≤ length ls → Cut net (reached_below ls (stations net)) → WritesCut (length (take (stations net) ls)) (take (stations net) ls) count cut cut' → Impossible net count prices prices cut cut'
impossible net count ls prices cut cut' e h l c w =
    let n = stations net in
    let w' : WritesCut n (take n ls) count cut cut' = rw (length-take-le n ls l) at w in
    let v : Cut net (take count cut') = rw (w'.written, reached_taken n n ls (omega arith)) c in
    record { none_obeys = Cutting.excludes net (take count cut') e v; room = omega (arith, w'.few, w'.long, h); is_cut = v; cut_beyond = w'.beyond; cut_as_long = λ m. w'.long; prices_stay = refl }

-- ---- checks passed
-- where the lowest number is no lower, none is
all_long : (n x : ℕ) (xs : List ℕ) → n ≤ fold min x xs → (n ≤ x) × AllByRecursion (λ y. n ≤ y) xs
all_long n x [] h = (h, tt)
all_long n x (y ∷ ys) h = let q = all_long n (min x y) ys h in (omega (arith, q.0), (omega (arith, q.0), q.1))

each_long : (n : ℕ) (xs : List ℕ) → n ≤ shortest xs → AllByRecursion (λ y. n ≤ y) xs
each_long n [] h = tt
each_long n (x ∷ xs) h = all_long n x xs h

-- what the checks settle
pub prepared : (net : Net) (prices : List ℤ) (cut : List ℕ) (before tables : Tables) → Within net → planning_fault net (lengths_of prices cut before) ≡ None → SameTables before tables → Prepared net tables
prepared net prices cut before tables w e t =
    let p = (Passing.say net (lengths_of prices cut before)).0 e in
    let a = each_long 240 (station_lengths before) p.stations_suffice in
    let b = each_long 3000 (leg_lengths before) p.legs_suffice in
    let n = w.few_stations in
    let m = w.few_legs in
    record {
      amounts = omega (arith, b.0, m, t.draft.amounts.long);
      left = omega (arith, a.0, n, t.draft.left.long);
      potentials = omega (arith, a.1.0, n, t.potentials.long);
      marks = omega (arith, a.1.1.1.1.1.0, n, t.marks.long);
      labels = omega (arith, a.1.1.1.1.1.1.0, n, t.labels.long);
      cents = omega (arith, a.1.1.1.1.1.1.1.0, n, t.cents.long);
      heads = omega (arith, a.1.1.1.1.1.1.1.1.0, n, t.chains.heads.long);
      nexts = omega (arith, b.1.1.1.0, m, t.chains.nexts.long);
      heap = omega (arith, a.1.1.1.1.1.1.1.1.1.0, n, t.queue.heap.long);
      places = omega (arith, a.1.1.1.1.1.1.1.1.1.1.0, n, t.queue.places.long);
      ends_below = p.ends_below;
    }

-- and no bike is over
pub best : (net : Net) (standing : List ℕ) (prices : List ℤ) (cut : List ℕ) (before tables : Tables) → planning_fault net (lengths_of prices cut before) ≡ None → Underway net standing tables.draft 0 → CheapestThenNearest net standing (the_plan net tables.draft.amounts.now)
best net standing prices cut before tables e u =
    let p = (Passing.say net (lengths_of prices cut before)).0 e in
    finished net standing tables.draft p.ends_below p.even u

-- what the end answers is what a planning does
pub answered : (net : Net) (standing : List ℕ) (lengths : Lengths) (r : Result (ℕ × ℕ) Refusal) (prices prices' : List ℤ) (cut amounts : List ℕ) → planning_fault net lengths ≡ None → Finishes net standing (the_plan net amounts) r prices prices' → Planned net standing lengths r prices prices' cut cut amounts
answered net standing lengths (Ok answer) prices prices' cut amounts e f = (e, f cut)
answered net standing lengths (Err x) prices prices' cut amounts e f = absurd f

-- tables that suffice are not too short to find prices in
pub never_unpriced : (net : Net) (prices : List ℤ) (tables : Tables) → Prepared net tables → stations net ≤ length prices → TooShort net tables.cents.now tables.chains tables.queue prices → ⊥
never_unpriced net prices tables p h (inl a) = never_short net tables.cents.now tables.chains (p.cents, p.heads, p.nexts) a
never_unpriced net prices tables p h (inr (inl a)) = omega (arith, a, p.heap)
never_unpriced net prices tables p h (inr (inr (inl a))) = omega (arith, a, p.places)
never_unpriced net prices tables p h (inr (inr (inr a))) = omega (arith, a, h)
