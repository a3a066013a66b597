-- Prices where no round trip totals below zero: they meet the reduced-cost condition, each station has one, and it is
-- the least total of all walks.
use Rattle.std.proofs.Common.{◌≡◌, ℕ, suc, ◌-◌, ◌<◌, ltb, List, [], length, ℤ, pos, ◌+ℤ◌, ◌≤ℤ◌, arith}
use Rattle.std.proofs.lemmas.Bool.{ltb-true, lt-ltb}
use Rattle.network.specs.Nets.{Net}
use Rattle.theory.specs.Groups.{whole}
use Rattle.theory.specs.Walks.{start, Edge, Among, Passes, Reached}
use Rattle.theory.proofs.Walking
use Rattle.theory.proofs.Relaxing
use Rattle.plans.specs.Plans.{stations}
use Rattle.plans.specs.Residuals.{step_cents, CentsStep}
use Rattle.plans.specs.Prices.{Station, CentsWalk, Price, CentsRoundTrip}
use Rattle.plans.proofs.Listed.{edges, is_step, listed, from_below}

pub reduced : (net : Net) (plan : List ℕ) → (CentsRoundTrip net plan → ⊥) → (u v : ℕ) (c s t : ℤ) → CentsStep net plan u v c → Price net plan u s → Price net plan v t → t ≤ℤ (s +ℤ c)
reduced net plan none = Walking.reduced whole (Station net) (CentsStep net plan) (λ r. none r.trip)

pub unique : (net : Net) (plan : List ℕ) (v : ℕ) (s t : ℤ) → Price net plan v s → Price net plan v t → s ≡ t
unique net plan v s t p q = Walking.price_unique whole (Station net) (CentsStep net plan) v s t p q

pub least : (net : Net) (plan : List ℕ) → (CentsRoundTrip net plan → ⊥) → (v : ℕ) (t : ℤ) → Price net plan v t → (us : List ℕ) (s : ℤ) → CentsWalk net plan v us s → t ≤ℤ s
least net plan none v t p = (Walking.price_least whole (Station net) (CentsStep net plan) (λ r. none r.trip) v t p).least

-- ---- there is a price
abbrev steps : Net → List ℕ → List (Edge ℤ)
steps net plan = edges net plan (step_cents net) (length net.legs)

step_is : (net : Net) (plan : List ℕ) (u v : ℕ) (c : ℤ) → Among (steps net plan) u v c → CentsStep net plan u v c
step_is net plan u v c s = is_step net plan (step_cents net) (length net.legs) (omega arith) u v c s

pub exists : (net : Net) (plan : List ℕ) → (CentsRoundTrip net plan → ⊥) → (v : ℕ) → v < stations net → (t : ℤ) × Price net plan v t
exists net plan none v h =
    let m : ℕ = stations net - 1 in
    let calm : Reached whole (Passes (λ u. ltb u (stations net))) (Among (steps net plan)) → ⊥ = λ r. none (Walking.trip_map whole (step_is net plan) r.trip) in
    let below : (u w : ℕ) (c : ℤ) → Among (steps net plan) u w c → u < suc m = λ u w c s. let b : u < stations net = from_below net plan (step_cents net) u w c (step_is net plan u w c s) in omega arith in
    let r = Relaxing.exists whole (λ u. ltb u (stations net)) (steps net plan) calm m below v (omega arith) [] (pos 0) (start (lt-ltb v (stations net) h)) in
    (r.0, Walking.price_map whole (λ u. ltb-true u (stations net)) (λ u. lt-ltb u (stations net)) (step_is net plan) (listed net plan (step_cents net)) v r.0 r.2)
