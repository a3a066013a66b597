-- One station and a yard, with a leg each way: which plans obey, and which is best.
use Rattle.std.proofs.Common.{◌≡◌, ℕ, ◌+◌, ◌≤◌, List, [], ◌∷◌, pos, ◌-ℤ◌, refl, arith}
use Rattle.std.proofs.lemmas.Int.{ints}
use Rattle.plans.specs.Plans.{leg_at, amount, balance_at, in_force, bikes_out, bikes_in, Obeys, cents, difference}
use Rattle.examples.specs.Networks.{lone_yard}
use Rattle.examples.specs.Examples.{OnlyBest}
use Rattle.examples.proofs.Places.{below_two, of_two, same_two}

abbrev best : List ℕ
best = 3 ∷ 0 ∷ []

abbrev still : List ℕ
still = 0 ∷ 0 ∷ []

-- 3 bikes more go to the yard than come from it
pub to_the_yard : (x y : ℕ) → Obeys lone_yard (x ∷ y ∷ []) → x ≡ y + 3
to_the_yard x y o = let a = o.balanced 0 (omega arith) in omega (arith, ints, a)

obeyed : Obeys lone_yard best
obeyed =
    record {
      fits = record { one_each = refl; within = below_two (λ k. amount best k ≤ in_force (leg_at lone_yard k)) (omega arith) (omega arith) };
      balanced = below_two (λ v. pos (bikes_out lone_yard best v) -ℤ pos (bikes_in lone_yard best v) ≡ balance_at lone_yard v) refl refl;
    }

each_obeying : (P : List ℕ → Type 0) → ((x y : ℕ) → x ≡ y + 3 → P (x ∷ y ∷ [])) → (p : List ℕ) → Obeys lone_yard p → P p
each_obeying P f p o = of_two (λ q. Obeys lone_yard q → P q) (λ x y r. f x y (to_the_yard x y r)) p o.fits.one_each o

pub to_spare : OnlyBest lone_yard still best 75 3
to_spare =
    record {
      exactly = λ p. (
        λ r. each_obeying (λ q. cents lone_yard q ≤ cents lone_yard best → q ≡ best) (λ x y h l. same_two x y 3 0 (omega arith) (omega arith)) p r.obeys (r.cheapest best obeyed),
        λ e. rw e (record {
          obeys = obeyed;
          cheapest = each_obeying (λ q. cents lone_yard best ≤ cents lone_yard q) (λ x y h. omega arith);
          nearest = each_obeying (λ q. cents lone_yard best ≡ cents lone_yard q → difference lone_yard still best ≤ difference lone_yard still q) (λ x y h e. omega arith);
        }),
      );
      costs = refl;
      differs = refl;
    }
