-- Three stations, with a leg from 0 to 1, one from 1 to 2 and one from 0 to 2: which plans obey, and which is best.
use Rattle.std.proofs.Common.{◌≡◌, ℕ, ◌+◌, ◌≤◌, List, [], ◌∷◌, pos, negsuc, ◌-ℤ◌, refl, arith}
use Rattle.std.proofs.lemmas.Int.{ints}
use Rattle.records.specs.declared.leg.Mark.{Mark}
use Rattle.records.specs.declared.leg.Mark.TheVariants.{Open, Shut}
use Rattle.network.specs.Nets.{Net, unasked}
use Rattle.plans.specs.Plans.{leg_at, amount, balance_at, under_mark, in_force, bikes_out, bikes_in, Obeys, cents, difference, CheapestThenNearest}
use Rattle.examples.specs.Networks.{T, U, T_shut, U_shut, T_limited}
use Rattle.examples.specs.Examples.{none, OnlyBest}
use Rattle.examples.proofs.Places.{below_three, of_three, same_three}

-- the capacities and marks of the legs, and the charge of the direct one
pub record Shape : Type 0 where
  pub m₀ : ℕ
  pub m₁ : ℕ
  pub m₂ : ℕ
  pub k₀ : Mark
  pub k₁ : Mark
  pub k₂ : Mark
  pub direct : ℕ

abbrev pub triangle : Shape → Net
triangle s = record {
  legs =
      record { start = 0; end = 1; capacity = s.m₀; charge = 20; mark = s.k₀ }
      ∷ record { start = 1; end = 2; capacity = s.m₁; charge = 10; mark = s.k₁ }
      ∷ record { start = 0; end = 2; capacity = s.m₂; charge = s.direct; mark = s.k₂ }
      ∷ [];
  balances = pos 4 ∷ pos 0 ∷ negsuc 3 ∷ [];
  open_stations = 3;
  road_legs = 3;
  rule = unasked;
}

-- x bikes to station 1, y from there, z directly
pub record Sends (s : Shape) (x y z : ℕ) : Type 0 where
  pub all_four : x + z ≡ 4
  pub onward : y ≡ x
  pub first : x ≤ under_mark s.k₀ s.m₀
  pub second : y ≤ under_mark s.k₁ s.m₁
  pub third : z ≤ under_mark s.k₂ s.m₂

pub sends : (s : Shape) (x y z : ℕ) → Obeys (triangle s) (x ∷ y ∷ z ∷ []) → Sends s x y z
sends s x y z o =
    let a = o.balanced 0 (omega arith) in
    let b = o.balanced 1 (omega arith) in
    record {
      all_four = omega (arith, ints, a);
      onward = omega (arith, ints, b);
      first = o.fits.within 0 (omega arith);
      second = o.fits.within 1 (omega arith);
      third = o.fits.within 2 (omega arith);
    }

pub obeyed : (s : Shape) (x y z : ℕ) → Sends s x y z → Obeys (triangle s) (x ∷ y ∷ z ∷ [])
obeyed s x y z h =
    let a = h.all_four in
    let b = h.onward in
    let p : List ℕ = x ∷ y ∷ z ∷ [] in
    record {
      fits = record { one_each = refl; within = below_three (λ k. amount p k ≤ in_force (leg_at (triangle s) k)) h.first h.second h.third };
      balanced = below_three (λ v. pos (bikes_out (triangle s) p v) -ℤ pos (bikes_in (triangle s) p v) ≡ balance_at (triangle s) v) (omega (arith, ints)) (omega (arith, ints)) (omega (arith, ints));
    }

-- what holds of all lists of three that obey holds of all lists that obey
pub each_obeying : (s : Shape) (P : List ℕ → Type 0) → ((x y z : ℕ) → Sends s x y z → P (x ∷ y ∷ z ∷ [])) → (p : List ℕ) → Obeys (triangle s) p → P p
each_obeying s P f p o = of_three (λ q. Obeys (triangle s) q → P q) (λ x y z r. f x y z (sends s x y z r)) p o.fits.one_each o

-- a best plan has the cents of any plan that obeys and has no more than it
pub best_cents : (net : Net) (standing p q : List ℕ) → CheapestThenNearest net standing p → Obeys net q → cents net q ≤ cents net p → cents net p ≡ cents net q
best_cents net standing p q r o l = equal (cents net p) (cents net q) (r.cheapest q o) l
  where
    equal : (m n : ℕ) → m ≤ n → n ≤ m → m ≡ n
    equal m n h k = omega arith

-- a plan of a, b and c bikes that is no worse than any that obeys, and better than any other
pub only : (s : Shape) (standing : List ℕ) (a b c : ℕ) → Sends s a b c
    → ((x y z : ℕ) → Sends s x y z → cents (triangle s) (a ∷ b ∷ c ∷ []) ≤ cents (triangle s) (x ∷ y ∷ z ∷ []))
    → ((x y z : ℕ) → Sends s x y z → cents (triangle s) (a ∷ b ∷ c ∷ []) ≡ cents (triangle s) (x ∷ y ∷ z ∷ []) → difference (triangle s) standing (a ∷ b ∷ c ∷ []) ≤ difference (triangle s) standing (x ∷ y ∷ z ∷ []))
    → ((x y z : ℕ) → Sends s x y z → cents (triangle s) (x ∷ y ∷ z ∷ []) ≡ cents (triangle s) (a ∷ b ∷ c ∷ []) → difference (triangle s) standing (x ∷ y ∷ z ∷ []) ≤ difference (triangle s) standing (a ∷ b ∷ c ∷ []) → z ≡ c)
    → OnlyBest (triangle s) standing (a ∷ b ∷ c ∷ []) (cents (triangle s) (a ∷ b ∷ c ∷ [])) (difference (triangle s) standing (a ∷ b ∷ c ∷ []))
only s standing a b c h cheap near alone =
    let net : Net = triangle s in
    let best : List ℕ = a ∷ b ∷ c ∷ [] in
    let o : Obeys net best = obeyed s a b c h in
    let least : (q : List ℕ) → Obeys net q → cents net best ≤ cents net q = each_obeying s (λ q. cents net best ≤ cents net q) cheap in
    let same : (p : List ℕ) → CheapestThenNearest net standing p → cents net p ≡ cents net best = λ p r. best_cents net standing p best r o (least p r.obeys) in
    record {
      exactly = λ p. (
        λ r. each_obeying s (λ q. cents net q ≡ cents net best → difference net standing q ≤ difference net standing best → q ≡ best)
            (λ x y z g e d. let w = alone x y z g e d in let i = g.all_four in let j = g.onward in let k = h.all_four in let l = h.onward in same_three x y z a b c (omega arith) (omega arith) w)
            p
            r.obeys
            (same p r)
            (r.nearest best o (same p r)),
        λ e. rw e (record {
          obeys = o;
          cheapest = least;
          nearest = each_obeying s (λ q. cents net best ≡ cents net q → difference net standing best ≤ difference net standing q) near;
        }),
      );
      costs = refl;
      differs = refl;
    }

-- ---- the examples
abbrev T_shape : Shape
T_shape = record { m₀ = 4; m₁ = 4; m₂ = 3; k₀ = Open; k₁ = Open; k₂ = Open; direct = (leg_at T 2).charge }

abbrev U_shape : Shape
U_shape = record { m₀ = 4; m₁ = 4; m₂ = 3; k₀ = Open; k₁ = Open; k₂ = Open; direct = 30 }

abbrev T_shut_shape : Shape
T_shut_shape = record { m₀ = 4; m₁ = 4; m₂ = 3; k₀ = Open; k₁ = Shut; k₂ = Open; direct = 40 }

abbrev U_shut_shape : Shape
U_shut_shape = record { m₀ = 4; m₁ = 4; m₂ = 3; k₀ = Open; k₁ = Open; k₂ = Shut; direct = 30 }

abbrev T_limited_shape : Shape
T_limited_shape = record { m₀ = 3; m₁ = 3; m₂ = 3; k₀ = Open; k₁ = Open; k₂ = Open; direct = 40 }

pub cheap_way : OnlyBest T none (4 ∷ 4 ∷ 0 ∷ []) 120 8
cheap_way = only T_shape none 4 4 0 (omega arith) (λ x y z h. omega arith) (λ x y z h e. omega arith) (λ x y z h e d. omega arith)

pub near_way : OnlyBest U none (1 ∷ 1 ∷ 3 ∷ []) 120 5
near_way = only U_shape none 1 1 3 (omega arith) (λ x y z h. omega arith) (λ x y z h e. omega arith) (λ x y z h e d. omega arith)

pub other_way : OnlyBest U_shut (1 ∷ 1 ∷ 3 ∷ []) (4 ∷ 4 ∷ 0 ∷ []) 120 9
other_way = only U_shut_shape (1 ∷ 1 ∷ 3 ∷ []) 4 4 0 (omega arith) (λ x y z h. omega arith) (λ x y z h e. omega arith) (λ x y z h e d. omega arith)

pub both_ways : OnlyBest T_limited none (3 ∷ 3 ∷ 1 ∷ []) 130 7
both_ways = only T_limited_shape none 3 3 1 (omega arith) (λ x y z h. omega arith) (λ x y z h e. omega arith) (λ x y z h e d. omega arith)

pub no_way : (p : List ℕ) → Obeys T_shut p → ⊥
no_way = each_obeying T_shut_shape (λ p. ⊥) (λ x y z h. omega arith)
