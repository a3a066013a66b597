-- From what was checked of numbers to prices: steps of falling rank lead back to a station at 0.
use Rattle.std.proofs.Common.{◌≡◌, ℕ, zero, suc, ◌<◌, List, [], ◌∷◌, ℤ, pos, arith}
use Rattle.std.proofs.lemmas.Int.{by_lt_z}
use Rattle.network.specs.Nets.{Net}
use Rattle.theory.specs.Integers.{whole_le_antisym}
use Rattle.theory.specs.Groups.{whole}
use Rattle.theory.specs.Walks.{start, step, Label}
use Rattle.theory.proofs.Walking
use Rattle.plans.specs.Plans.{stations}
use Rattle.plans.specs.Residuals.{CentsStep, step_cents}
use Rattle.plans.specs.Prices.{Station, CentsWalk, Price, CentsRoundTrip}
use Rattle.search.proofs.Stepping.{ends}
use Rattle.plans.specs.Prices.{price_at, Prices}
use Rattle.prices.specs.Checked.{Checked}

module _ (net : Net) (plan : List ℕ) (ps : List ℤ) (rank : ℕ → ℕ) (k : Checked net plan ps rank) where
  abbrev Any : ℕ → Type 0
  Any v = Unit {0}

  none_below : CentsRoundTrip net plan → ⊥
  none_below t = Walking.no_trip_at whole (CentsStep net plan) Any (price_at ps) (λ u v c r s. (tt, k.reduced u v c s)) t tt

  potential : Label whole (Station net) (CentsStep net plan) Any (price_at ps)
  potential = record { starts = λ v h. (tt, k.none_above v h); held = λ u v c r s. (tt, k.reduced u v c s) }

  abbrev Walked : ℕ → Type 0
  Walked v = (us : List ℕ) × CentsWalk net plan v us (price_at ps v)

  at_zero : (v : ℕ) → v < stations net → price_at ps v ≡ pos 0 → Walked v
  at_zero v h e = ([], rw e (start h))

  -- where the rank is below m
  walked : (m v : ℕ) → v < stations net → rank v < m → Walked v
  walked zero v h l = absurd (omega arith)
  walked (suc m) v h l =
      by_lt_z (price_at ps v) (pos 0) (λ below.
      let a = k.attained v h below in
      let w = walked m a.from (ends net plan (step_cents net) a.from v a.cents a.step).0 (omega (arith, a.lower)) in
      (a.from ∷ w.0, rw a.tight (step w.1 a.step))
      ) (λ above. at_zero v h (whole_le_antisym _ _ (k.none_above v h) above))

  priced : (v : ℕ) → v < stations net → Price net plan v (price_at ps v)
  priced v h =
      let w = walked (suc (rank v)) v h (omega arith) in
      Walking.price whole (Station net) (CentsStep net plan) Any (price_at ps) potential v w.0 w.1

  pub checked_prices : (CentsRoundTrip net plan → ⊥) × Prices net plan ps
  checked_prices = (none_below, record { price = priced; reduced = k.reduced })
