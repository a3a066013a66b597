-- What a sending does to a plan and to what is left over.
use Rattle.std.proofs.Common.{◌≡◌, ℕ, zero, suc, negsuc, neg_ℤ, ◌<◌, ◌≤◌, Bool, List, length, get_or, drop, ℤ, pos, ◌+ℤ◌, ◌-ℤ◌, ◌≤ℤ◌, ◌<ℤ◌, None, sym, refl, ap, ◌∙◌, subst, inl, inr, arith, w64, SFits, to_z, of_z}
use Rattle.std.proofs.lemmas.List.{drop-set-lt, get_or_past, get_or-take}
use Rattle.std.specs.Int.{saturate_signed}
use Rattle.std.proofs.lemmas.Int.{ints, to_z-of_z}
use Rattle.std.proofs.lemmas.Bool.{cases_lt, ne_eqb}
use Rattle.network.specs.Nets.{Net}
use Rattle.plans.specs.Plans.{stations}
use Rattle.plans.specs.Cuts.{left_over}
use Rattle.theory.specs.Trails.{here}
use Rattle.certificates.specs.Pushes
use Rattle.certificates.proofs.Moved.{lowers_over}
use Rattle.planning.specs.declared.draft.Draft.{Draft}
use Rattle.planning.specs.Drafts.{left_after_move}
use Rattle.planning.proofs.Handing.{handed_at}
use Rattle.search.specs.declared.label.Label.{Label}
use Rattle.planning.specs.Sends.{Both, SettledFor, Tracks, Sent, Ready, Sends}
use Rattle.planning_rules.specs.Answers.{the_plan}
use Rattle.planning.specs.Routes.{Route, Finds, Along}
use Rattle.planning.specs.Sendable.{spare}
use Rattle.planning.proofs.Routing.{route_below, route_start, start_below, route_less, route_at}

-- an entry that is not 0 is there
pub not_past : (xs : List ℤ) (i : ℕ) → (get_or xs i (pos 0) ≡ pos 0 → ⊥) → i < length xs
not_past xs i h = elim (cases_lt i (length xs)) [ inl l ↦ l | inr l ↦ absurd (h (get_or_past xs i (pos 0) l)) ]

pub over_there : (left : List ℤ) (s b : ℕ) → 0 < b → pos b ≤ℤ get_or left s (pos 0) → s < length left
over_there left s b h p = not_past left s (λ e. omega (arith, ints, e, p))

pub lack_there : (left : List ℤ) (t b : ℕ) → 0 < b → (get_or left t (pos 0) +ℤ pos b) ≤ℤ pos 0 → t < length left
lack_there left t b h p = not_past left t (λ e. omega (arith, ints, e, p))

pub apart_ends : (left : List ℤ) (s t b : ℕ) → 0 < b → pos b ≤ℤ get_or left s (pos 0) → (get_or left t (pos 0) +ℤ pos b) ≤ℤ pos 0 → s ≡ t → ⊥
apart_ends left s t b h p q e = let f : get_or left s (pos 0) ≡ get_or left t (pos 0) = ap (λ w. get_or left w (pos 0)) e in omega (arith, ints, f, p, q)

-- ---- the bikes that the start has over and the target lacks
-- a number of 64 bits with sign is what its bits say
shown_at : (x y : ℤ) → SFits w64 x → x ≡ y → to_z w64 (of_z w64 x) ≡ y
shown_at x y f e = to_z-of_z w64 x f ∙ e

-- what the negated left over gives is what the left over lacks
lacked : (y : ℤ) (b : ℕ) → pos b ≤ℤ saturate_signed w64 (neg_ℤ y) → (y +ℤ pos b) ≤ℤ pos 0
lacked (pos zero) b h = omega (arith, ints)
lacked (pos (suc a)) b h = omega (arith, ints)
lacked (negsuc a) b h = omega (arith, ints)

lacking : (y : ℤ) → y <ℤ pos 0 → pos 0 <ℤ saturate_signed w64 (neg_ℤ y)
lacking (pos a) h = omega (arith, ints)
lacking (negsuc a) h = omega (arith, ints)

-- what a spare is, of a left over x that is passed in 64 bits
pub record Spares (most : ℕ) (x : ℤ) (b : ℕ) : Type 0 where
  pub within : b ≤ most
  pub has : 0 < b → pos b ≤ℤ x
  pub some : 0 < most → pos 0 <ℤ x → 0 < b

spare_of : (most b : ℕ) (x : ℤ) → b ≡ spare most x → Spares most x b
spare_of most b (pos a) e = record { within = omega (arith, e); has = λ p. omega (arith, ints, e, p); some = λ p q. omega (arith, ints, e, p, q) }
spare_of most b (negsuc a) e = record { within = omega (arith, e); has = λ p. absurd (omega (arith, e, p)); some = λ p q. absurd (omega (arith, ints, q)) }

spares : (most b : ℕ) (r x : ℤ) → r ≡ x → SFits w64 r → b ≡ spare most (to_z w64 (of_z w64 r)) → Spares most x b
spares most b r x e f h = spare_of most b x (h ∙ ap (spare most) (shown_at r x f e))

-- mid of the start's x within the room, and b of those that the target lacks by y within mid
pub record Spends (room mid b : ℕ) (x y : ℤ) : Type 0 where
  pub of_start : Spares room x mid
  pub of_target : Spares mid (saturate_signed w64 (neg_ℤ y)) b

pub spends : (room mid b : ℕ) (r s n x y : ℤ) → SFits w64 r → SFits w64 s → SFits w64 n → r ≡ x → s ≡ y → n ≡ saturate_signed w64 (neg_ℤ (to_z w64 (of_z w64 s)))
    → mid ≡ spare room (to_z w64 (of_z w64 r)) → b ≡ spare mid (to_z w64 (of_z w64 n)) → Spends room mid b x y
spends room mid b r s n x y f g h p q e k l =
    record { of_start = spares room mid r x p f k; of_target = spares mid b n _ (e ∙ ap (λ z. saturate_signed w64 (neg_ℤ z)) (shown_at s y g q)) h l }

pub fits_room : (room mid b : ℕ) (x y : ℤ) → Spends room mid b x y → b ≤ room
fits_room room mid b x y p = omega (arith, p.of_start.within, p.of_target.within)

pub has_of : (room mid b : ℕ) (x y : ℤ) → Spends room mid b x y → 0 < b → pos b ≤ℤ x
has_of room mid b x y p h = let q = p.of_start.has (omega (arith, p.of_target.within)) in omega (arith, ints, q, p.of_target.within)

pub lacks_of : (room mid b : ℕ) (x y : ℤ) → Spends room mid b x y → 0 < b → (y +ℤ pos b) ≤ℤ pos 0
lacks_of room mid b x y p h = lacked y b (p.of_target.has h)

-- ---- 64 bits hold what is left over then
fits_less : (x : ℤ) (b : ℕ) → pos b ≤ℤ x → SFits w64 x → SFits w64 (x -ℤ pos b)
fits_less x b h f = omega (arith, ints, f)

fits_more : (y : ℤ) (b : ℕ) → (y +ℤ pos b) ≤ℤ pos 0 → SFits w64 y → SFits w64 (y +ℤ pos b)
fits_more y b h f = omega (arith, ints, f)

module _ (net : Net) (standing : List ℕ) (ls : List (Label Both)) (target : ℕ) (before : Draft) where
  abbrev plan : List ℕ
  plan = before.amounts.now

  abbrev left : List ℤ
  left = before.left.now

  -- nothing is sent
  pub sends_none : ((old : List ℕ) (f : ℕ → Bool) → SettledFor net standing old f ls → Tracks net plan left → Ready net standing old f ls target plan → ⊥) → Sends net standing ls target 0 before before
  sends_none never =
      record {
        beyond = record { amounts = refl; left = refl };
        none = λ e. (refl, refl);
        sent = λ old f z t. record { tracks = t; certified = λ π a c. c; lower = omega arith };
        some = λ old f z t r. absurd (never old f z t r);
      }

  pub never_lost : Finds net standing plan ls target None → Sends net standing ls target 0 before before
  never_lost h = sends_none (λ old f z t r. h old f r.arrival z r.same r.below r.labelled)

  module _ (room s : ℕ) (route : Route net standing plan ls room target s) where
    pub never_spent : (mid b : ℕ) → 0 < room → Spends room mid b (get_or left s (pos 0)) (get_or left target (pos 0)) → b ≡ 0 → Sends net standing ls target 0 before before
    never_spent mid b h p e =
        sends_none (λ old f z t r.
        let over = r.over s (route_start f z route) in
        let at_start = t.left_overs s (start_below route) in
        let at_target = t.left_overs target r.below in
        let has : pos 0 <ℤ get_or left s (pos 0) = omega (arith, ints, over, at_start) in
        let lacks : get_or left target (pos 0) <ℤ pos 0 = omega (arith, ints, r.lacks, at_target) in
        let z = p.of_target.some (p.of_start.some h has) (lacking (get_or left target (pos 0)) lacks) in
        omega (arith, z, e))

    module _ (b : ℕ) (after : Draft) (fits : b ≤ room) (some : 0 < b) (has : pos b ≤ℤ get_or left s (pos 0)) (lacks : (get_or left target (pos 0) +ℤ pos b) ≤ℤ pos 0)
        (fits_start : SFits w64 (get_or left s (pos 0))) (fits_target : SFits w64 (get_or left target (pos 0))) (along : Along net ls b target plan after.amounts.now) (written : after.left.now ≡ left_after_move s target b left) where
      ends : s ≡ target → ⊥
      ends = apart_ends left s target b some has lacks

      -- the route in the plan of the table
      route_in : Route net standing (the_plan net plan) ls b target s
      route_in = route_at (the_plan net plan) (λ _. Unit {0}) (λ u v x l q h k e p. (tt, sym (get_or-take (length net.legs) plan l.leg 0 p.joined.there))) (route_less fits route) tt

      at_start : (v : ℕ) → s ≡ v → (v < length left) × SFits w64 (get_or left v (pos 0) -ℤ pos b)
      at_start v e = subst (λ w. (w < length left) × SFits w64 (get_or left w (pos 0) -ℤ pos b)) e (over_there left s b some has, fits_less _ b has fits_start)

      at_target : (v : ℕ) → target ≡ v → (v < length left) × SFits w64 ((get_or left v (pos 0) -ℤ pos (here b s v)) +ℤ pos b)
      at_target v e =
          let f = fits_more _ b lacks fits_target in
          subst (λ w. (w < length left) × SFits w64 ((get_or left w (pos 0) -ℤ pos (here b s w)) +ℤ pos b)) e (lack_there left target b some lacks, rw (ne_eqb s target ends) (omega (arith, ints, f)))

      -- what is left over after it, by what was left over before it
      left_is : Pushes.Sent net (the_plan net plan) (the_plan net after.amounts.now) b s target → ((v : ℕ) → v < stations net → get_or left v (pos 0) ≡ left_over net (the_plan net plan) v) → (v : ℕ) → v < stations net → get_or after.left.now v (pos 0) ≡ left_over net (the_plan net after.amounts.now) v
      left_is q t v h = ap (λ xs. get_or xs v (pos 0)) written ∙ handed_at s target b left v (at_start v) (at_target v) ∙ ap (λ y. (y -ℤ pos (here b s v)) +ℤ pos (here b target v)) (t v h) ∙ sym (q.moved v)

      sent_by : (old : List ℕ) (f : ℕ → Bool) → SettledFor net standing old f ls → Tracks net plan left → Sent net standing ls b plan after.amounts.now after.left.now
      sent_by old f z t =
          let q = along.sent standing old f s z t.fits route_in in
          record {
            tracks = record { fits = q.0.fits; left_overs = left_is q.0 t.left_overs };
            certified = q.1;
            lower = lowers_over net (the_plan net plan) (the_plan net after.amounts.now) b s target q.0 (start_below route) ends (subst (λ y. pos b ≤ℤ y) (t.left_overs s (start_below route)) has) (subst (λ y. (y +ℤ pos b) ≤ℤ pos 0) (t.left_overs target (route_below route)) lacks);
          }

      pub sends_some : Sends net standing ls target b before after
      sends_some =
          record {
            beyond = record { amounts = along.beyond; left = ap (drop (stations net)) written ∙ drop-set-lt (stations net) _ target _ (route_below route) ∙ drop-set-lt (stations net) left s _ (start_below route) };
            none = λ e. absurd (omega (arith, e, some));
            sent = sent_by;
            some = λ old f z t r. some;
          }
