-- From what is looked at of a claim to what is checked of its totals.
use Rattle.std.proofs.Common.{◌≡◌, ℕ, ◌<◌, List, ℤ, pos, neg_ℤ, ◌+ℤ◌, ◌≤ℤ◌, ◌<ℤ◌, slice_index, refl, arith}
use borrow.Author.Differences.{ints}
use Rattle.network.specs.Nets.{Net}
use Rattle.plans.specs.declared.direction.Direction.{Direction}
use Rattle.plans.specs.declared.direction.Direction.TheVariants.{Forth, Back}
use Rattle.plans.specs.Plans.{stations, leg_at}
use Rattle.plans.specs.Residuals.{CentsStep, step_cents, forward, backward, Joined}
use Rattle.plans.specs.Prices.{CentsRoundTrip}
use Rattle.costs.specs.Kinds.{Cents}
use Rattle.steps.specs.Loads.{load_of}
use Rattle.search.specs.declared.label.Label.{Label}
use Rattle.search.proofs.Stepping.{ends}
use Rattle.prices.specs.Priced.{totals}
use Rattle.plans.specs.Prices.{price_at, Prices}
use Rattle.prices.specs.Checked.{Attained}
use Rattle.prices.specs.Claims.{total_at, Attains, Confirmed}
use Rattle.prices.proofs.Settling.{price_at-totals}
use Rattle.prices.proofs.Checking.{checked_prices}

-- against a leg: at the negated charge
against : (a b : ℤ) (c : ℕ) → (a +ℤ pos c) ≤ℤ b → a ≤ℤ (b +ℤ neg_ℤ (pos c))
against a b c h = omega (arith, ints, h)

tight_against : (a b : ℤ) (c : ℕ) → b ≡ a +ℤ pos c → a ≡ b +ℤ neg_ℤ (pos c)
tight_against a b c h = omega (arith, ints, h)

module _ (net : Net) (plan : List ℕ) (ls : List (Label Cents)) (ranks : List ℕ) where
  abbrev ps : List ℤ
  ps = totals (stations net) ls

  at : (v : ℕ) → v < stations net → price_at ps v ≡ total_at ls v
  at v h = price_at-totals (stations net) ls v h

  abbrev rank : ℕ → ℕ
  rank v = slice_index ranks v

  module _ (a : Confirmed net plan ls ranks) where
    kept : (u v : ℕ) (c : ℤ) → CentsStep net plan u v c → total_at ls v ≤ℤ (total_at ls u +ℤ c)
    kept u v c (forward k j e f r q) = rw (← e, ← f, q) ((a.kept k j.there j).forth r)
    kept u v c (backward k j e f r q) = rw (← e, ← f, q) (against _ _ _ ((a.kept k j.there j).back r))

    reduced : (u v : ℕ) (c : ℤ) → CentsStep net plan u v c → price_at ps v ≤ℤ (price_at ps u +ℤ c)
    reduced u v c s = let e = ends net plan (step_cents net) u v c s in rw (at u e.0, at v e.1) (kept u v c s)

    attained_by : (d : Direction) (k v : ℕ) → v < stations net → Joined net k → Attains ls ranks v d (load_of net plan k) → Attained net plan ps rank v
    attained_by Forth k v h j t =
        record {
          from = (leg_at net k).start;
          cents = pos (leg_at net k).charge;
          step = forward k j refl t.ends (omega (arith, t.takes)) refl;
          tight = rw (at v h, at _ j.start_below, ← t.ends) t.tight;
          lower = t.lower;
        }
    attained_by Back k v h j t =
        record {
          from = (leg_at net k).end;
          cents = neg_ℤ (pos (leg_at net k).charge);
          step = backward k j refl t.ends t.takes refl;
          tight = rw (at v h, at _ j.end_below, ← t.ends) (tight_against _ _ _ t.tight);
          lower = t.lower;
        }

    attained : (v : ℕ) → v < stations net → price_at ps v <ℤ pos 0 → Attained net plan ps rank v
    attained v h below =
        let b : total_at ls v <ℤ pos 0 = rw (at v h) at below in
        let t = (a.stand v h).attained b in
        attained_by t.last.direction t.last.leg v h t.joined t.attains

    pub confirmed_prices : (CentsRoundTrip net plan → ⊥) × Prices net plan ps
    confirmed_prices = checked_prices net plan ps rank (record { none_above = λ v h. rw (at v h) (a.stand v h).not_above; reduced = reduced; attained = attained })
