-- From what the search says at cents, from every station, to prices.
use Rattle.std.proofs.Common.{◌≡◌, ℕ, ◌<◌, ◌≤◌, true, List, [], ◌++◌, length, take, drop, length-take, ℤ, pos, sym, refl, subst, ◌∙◌, inl, inr, arith}
use Rattle.std.proofs.lemmas.List.FromFn.{get_or-map-range_with_len}
use Rattle.std.proofs.lemmas.Slice.{drop-append-drop}
use Rattle.std.proofs.Math.ListN.{get_or-append}
use Rattle.network.specs.Nets.{Net}
use Rattle.theory.specs.Groups.{OrderedGroup, whole}
use Rattle.theory.specs.Walks.{start, Way, rest, go, RoundTrip, Reached}
use Rattle.theory.proofs.Walking
use Rattle.plans.specs.Plans.{stations}
use Rattle.plans.specs.Residuals.{Step, CentsStep, step_cents}
use Rattle.plans.specs.Prices.{Station, Price, CentsRoundTrip}
use Rattle.plans.proofs.Pricing
use Rattle.costs.specs.Kinds.{Cents, cents_kind}
use Rattle.steps.specs.Fees.{paid, cents_worth}
use Rattle.steps.proofs.Paying.{cents_same}
use Rattle.search.specs.Labels.{label_at}
use Rattle.search.specs.Searches.{From, Settles, StepOf, OverOf}
use Rattle.search.specs.declared.label.Label.{Label}
use Rattle.search.specs.declared.outcome.Outcome.TheVariants.{Settled}
use Rattle.search.proofs.Optional.{option_cases}
use Rattle.search.proofs.Stepping.{ends}
use Rattle.prices.specs.Priced.{cents_fee, price_in, totals, Writes, Found, Written}
use Rattle.plans.specs.Prices.{price_at, Prices}

pub price_at-totals : (n : ℕ) (ls : List (Label Cents)) (v : ℕ) → v < n → price_at (totals n ls) v ≡ price_in (label_at ls v)
price_at-totals n ls v h = get_or-map-range_with_len (λ w. price_in (label_at ls w)) 0 n v v (pos 0) h (omega arith)

-- where walks start at the end of every step, every round trip below zero is reached
module _ {A : Type 0} (G : OrderedGroup A) (F : ℕ → Type 0) (S : ℕ → ℕ → A → Type 0) (starts : (u v : ℕ) (c : A) → S u v c → F v) where
  at_end : {o v : ℕ} {us : List ℕ} {z : A} → Way G S o v us z → (G.le G.zero z → ⊥) → F v
  at_end rest n = absurd (n (G.le_refl G.zero))
  at_end (go {u = u} {v = v} {c = c} w p) n = starts u v c p

  trip_reached : RoundTrip G S → Reached G F S
  trip_reached t = record { trip = t; before = []; total = G.zero; walk = start (at_end t.way t.below) }

module _ (net : Net) (plan : List ℕ) where
  -- the search's starts and steps
  abbrev Everywhere : ℕ → Type 0
  Everywhere = From net (λ _. true)

  abbrev Fee : ℕ → ℕ → ℤ → Type 0
  Fee = StepOf cents_kind net plan cents_fee

  to_step : (u v : ℕ) (c : ℤ) → Fee u v c → CentsStep net plan u v c
  to_step u v c s = subst (λ cost. Step net plan cost u v c) (cents_same net plan) s

  of_step : (u v : ℕ) (c : ℤ) → CentsStep net plan u v c → Fee u v c
  of_step u v c s = subst (λ cost. Step net plan cost u v c) (sym (cents_same net plan)) s

  to_station : (v : ℕ) → Everywhere v → Station net v
  to_station v p = p.0

  of_station : (v : ℕ) → Station net v → Everywhere v
  of_station v p = (p, refl)

  pub trip_of : Reached whole Everywhere Fee → CentsRoundTrip net plan
  trip_of r = Walking.trip_map whole to_step r.trip

  pub no_trip_of : (Reached whole Everywhere Fee → ⊥) → CentsRoundTrip net plan → ⊥
  no_trip_of none t =
      none (trip_reached whole Everywhere Fee (λ u v c s. of_station v (ends net plan (paid cents_worth net plan) u v c s).1) (Walking.trip_map whole of_step t))

  module _ (ls : List (Label Cents)) (z : Settles cents_kind (stations net) Everywhere Fee (OverOf cents_kind net plan cents_fee) ls) where
    label_price : (v : ℕ) → v < stations net → Price net plan v (price_in (label_at ls v))
    label_price v h =
        elim (option_cases (label_at ls v).arrival) [
          | inl e ↦ absurd (z.unreached v h e [] (pos 0) (start (of_station v h)))
          | inr x ↦
              let p = Walking.price_map whole to_station of_station to_step of_step v _ (Walking.least_price whole Everywhere Fee z.no_trip v _ (z.least v x.0 h x.1)) in
              rw x.1 p
        ]

    module _ (before after : List ℤ) (w : Writes (stations net) ls before after) where
      written_price : (v : ℕ) → v < stations net → Price net plan v (price_at after v)
      written_price v h = rw (w.each v h) (label_price v h)

      pub prices_of : Prices net plan after
      prices_of =
          record {
            price = written_price;
            reduced = λ u v c s.
                let e = ends net plan (step_cents net) u v c s in
                Pricing.reduced net plan (no_trip_of z.no_trip) u v c (price_at after u) (price_at after v) s (written_price u e.0) (written_price v e.1);
          }

-- the prices of the stations stand before the others
pub writes_before : (n : ℕ) (ls : List (Label Cents)) (prices written : List ℤ) → n ≤ length prices → length written ≡ n → Writes (length (take n prices)) ls (take n prices) written
    → Writes n ls prices (written ++ drop n prices)
writes_before n ls prices written few long w =
    record {
      beyond = drop-append-drop n prices written n (omega arith) long;
      each = λ v l. get_or-append written (drop n prices) (pos 0) v (omega arith) ∙ w.each v (omega (arith, long, length-take n prices));
    }

-- after a search
pub written_found : (net : Net) (plan : List ℕ) (ls : List (Label Cents)) (before after : List ℤ) → Found net plan Settled ls → Writes (stations net) ls before after → Written net plan Settled before after
written_found net plan ls before after z w = (no_trip_of net plan z.no_trip, prices_of net plan ls z before after w, w.beyond)

-- from totals that are the prices
pub written_confirmed : (net : Net) (plan : List ℕ) (ls : List (Label Cents)) (before after : List ℤ) → (CentsRoundTrip net plan → ⊥) × Prices net plan (totals (stations net) ls) → Writes (stations net) ls before after → Written net plan Settled before after
written_confirmed net plan ls before after p w =
    let same : (v : ℕ) → v < stations net → price_at after v ≡ price_at (totals (stations net) ls) v = λ v h. w.each v h ∙ sym (price_at-totals (stations net) ls v h) in (
      p.0,
      record {
        price = λ v h. rw (same v h) (p.1.price v h);
        reduced = λ u v c s. let e = ends net plan (step_cents net) u v c s in rw (same u e.0, same v e.1) (p.1.reduced u v c s);
      },
      w.beyond,
    )
