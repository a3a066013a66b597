-- Sendings to one station after another.
use Rattle.std.proofs.Common.{◌≡◌, ℕ, ◌+◌, ◌-◌, ◌<◌, ◌≤◌, Bool, ◌⊎◌, List, length, ℤ, pos, negsuc, ◌≤ℤ◌, ◌<ℤ◌, sym, ap, ◌∙◌, inl, inr, arith}
use native.Mathlib.Decide.{ℕ_discrete}
use borrow.Author.Differences.{ints}
use Rattle.std.proofs.lemmas.List.{get_or-take}
use Rattle.network.specs.Nets.{Net}
use Rattle.plans.specs.Plans.{stations, amount}
use Rattle.plans.specs.Cuts.{left_over}
use Rattle.certificates.specs.Totals.{all_over}
use Rattle.planning.specs.declared.draft.Draft.{Draft}
use Rattle.search.specs.Searches.{From}
use Rattle.search.specs.declared.label.Arrival.{Arrival}
use Rattle.search.specs.declared.label.Label.{Label}
use Rattle.planning.specs.Sends.{Both, Known, SettledFor, Tracks, Ready, Sends}
use Rattle.planning_rules.specs.Answers.{the_plan}
use Rattle.planning.specs.States.{Lessened, SentAll, SentSome, SendsAll, SendsSome}

-- the amounts of the legs are the plan's
of_legs : (net : Net) (amounts : List ℕ) (k : ℕ) → k < length net.legs → amount (the_plan net amounts) k ≡ amount amounts k
of_legs net amounts k h = get_or-take (length net.legs) amounts k 0 h

-- integers are above zero, or not
sign : (z : ℤ) → (z <ℤ pos 0) ⊎ (pos 0 ≤ℤ z)
sign (pos a) = inr (omega (arith, ints))
sign (negsuc a) = inl (omega (arith, ints))

module _ (net : Net) (standing : List ℕ) (ls : List (Label Both)) (over : ℕ) (first : Draft) where
  abbrev old : List ℕ
  old = the_plan net first.amounts.now

  -- after the stations below i
  pub record Sending (i r : ℕ) (now : Draft) : Type 0 where
    pub lessened : Lessened net standing ls over r old now
    pub still : r ≡ over → (now.amounts.now ≡ first.amounts.now) × ((v : ℕ) (x : Arrival Both) → v < i → Known ls v x → pos 0 ≤ℤ left_over net old v)

  -- one sending more; where as many bikes are over as at first, it moved none, and none moved before
  module _ (f : ℕ → Bool) (z : SettledFor net standing old f ls) (i r b : ℕ) (now after : Draft) (s : Sends net standing ls i b now after) (g : Lessened net standing ls over r old now) where
    lower : all_over net (the_plan net after.amounts.now) + b ≡ r
    lower = (s.sent old f z g.tracks).lower ∙ sym g.over_all

    lessened_more : Lessened net standing ls over (r - b) old after
    lessened_more =
        let t = s.sent old f z g.tracks in
        record { tracks = t.tracks; over_all = omega (arith, lower); fewer = omega (arith, g.fewer); certified = λ π a c. t.certified π a (g.certified π a c) }

    none_moved : r - b ≡ over → (b ≡ 0) × (r ≡ over)
    none_moved q = (omega (arith, lower, g.fewer, q), omega (arith, lower, g.fewer, q))

  module _ (f : ℕ → Bool) (z : SettledFor net standing old f ls) (starts : (v : ℕ) → From net f v → pos 0 <ℤ left_over net old v) where
    -- nothing moved, so a labelled station does not lack bikes
    unmoved : (i b : ℕ) (now after : Draft) → i < stations net → now.amounts.now ≡ first.amounts.now → Tracks net now.amounts.now now.left.now → Sends net standing ls i b now after → b ≡ 0 → (x : Arrival Both) → Known ls i x → pos 0 ≤ℤ left_over net old i
    unmoved i b now after h e t s n x k =
        elim (sign (left_over net old i)) [
          | inl low ↦
              let r : Ready net standing old f ls i now.amounts.now =
              record { arrival = x; labelled = k; below = h; same = λ j q. of_legs net first.amounts.now j q ∙ ap (λ ys. amount ys j) (sym e); lacks = rw e low; over = λ v q. rw e (starts v q) } in
              let q = s.some old f z t r in absurd (omega (arith, q, n))
          | inr high ↦ high
        ]

    sending_more : (i r b : ℕ) (now after : Draft) → i < stations net → Sends net standing ls i b now after → Sending i r now → Sending (i + 1) (r - b) after
    sending_more i r b now after h s g =
        record {
          lessened = lessened_more f z i r b now after s g.lessened;
          still = λ q.
              let n = none_moved f z i r b now after s g.lessened q in
              let w = g.still n.1 in (
                (s.none n.0).0 ∙ w.0,
                λ v x k e. elim (ℕ_discrete v i) [
                  | yes p ↦ let k' : Known ls i x = rw p at e in rw p (unmoved i b now after h w.0 g.lessened.tracks s n.0 x k')
                  | no p ↦ w.1 v x (omega arith) e
                ],
              );
        }

  sending_all : (i r : ℕ) (now : Draft) → stations net ≤ i → Sending i r now → SentAll net standing ls over r first now
  sending_all i r now h g = record { lessened = g.lessened; still = λ q. let w = g.still q in (w.0, λ v x k e. w.1 v x (omega arith) e) }

  -- after the stations below i, whatever the labels are settled for
  abbrev pub SendsBelow : ℕ → ℕ → Draft → Type 0
  SendsBelow i r now = (f : ℕ → Bool) → SettledFor net standing old f ls → ((v : ℕ) → From net f v → pos 0 <ℤ left_over net old v) → Tracks net first.amounts.now first.left.now → over ≡ all_over net old → Sending i r now

  pub below_more : {i r b r' : ℕ} {now after : Draft} → i < stations net → r' ≡ r - b → SendsBelow i r now → Sends net standing ls i b now after → SendsBelow (i + 1) r' after
  below_more {i} {r} {b} {r'} {now} {after} h q g s = λ f z p t o. rw q (sending_more f z p i r b now after h s (g f z p t o))

  pub below_all : {i r : ℕ} {now : Draft} → stations net ≤ i → SendsBelow i r now → SendsAll net standing ls over r first now
  below_all {i} {r} {now} h g = λ f z p t o. sending_all i r now h (g f z p t o)

  -- ---- sendings to some stations
  some_sent : (f : ℕ → Bool) → SettledFor net standing old f ls → (i r b : ℕ) (now after : Draft) → Sends net standing ls i b now after → SentSome net standing ls over r first now → SentSome net standing ls over (r - b) first after
  some_sent f z i r b now after s g =
      record {
        lessened = lessened_more f z i r b now after s g.lessened;
        still = λ q.
            let n = none_moved f z i r b now after s g.lessened q in
            let w = g.still n.1 in
            ((s.none n.0).0 ∙ w.0, (s.none n.0).1 ∙ w.1);
      }

  pub some_more : {i r b r' : ℕ} {now after : Draft} → r' ≡ r - b → SendsSome net standing ls over r first now → Sends net standing ls i b now after → SendsSome net standing ls over r' first after
  some_more {i} {r} {b} {r'} {now} {after} q g s = λ f z t o. rw q (some_sent f z i r b now after s (g f z t o))

  -- where bikes have moved, nothing is claimed of those that lack them
  pub some_all : {r : ℕ} {after : Draft} → r < over → SendsSome net standing ls over r first after → SendsAll net standing ls over r first after
  some_all h a = λ f z s t o. let g = a f z t o in record { lessened = g.lessened; still = λ q. absurd (omega (arith, h, q)) }

  -- sendings that moved nothing, and then sendings to every station
  pub once_more : {less r : ℕ} {now after : Draft} → over ≤ less → SendsSome net standing ls over less first now → SendsAll net standing ls over r now after → SendsAll net standing ls over r first after
  once_more {less} {r} {now} {after} h a b = λ f z s t o.
      let g = a f z t o in
      let q = (g.still (omega (arith, h, g.lessened.fewer))).0 in
      let w = b f (rw q z) (λ v k. rw q (s v k)) g.lessened.tracks (rw q o) in
      record { lessened = rw q at w.lessened; still = rw q at w.still }
