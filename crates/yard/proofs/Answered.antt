-- What is read of a network with a yard.
use Rattle.std.proofs.Common.{◌≡◌, ℕ, ◌+◌, ◌-◌, ◌*◌, ◌<◌, ◌≤◌, Bool, false, map, length, Some, None, Option, ltb, sym, refl, ap, ◌∙◌, arith}
use Rattle.std.specs.Option.{is_some, IfSome}
use Rattle.std.specs.List.{slice_get, range_with_len}
use Rattle.std.proofs.lemmas.List.FromFn.{length-map-range_with_len}
use Rattle.std.proofs.lemmas.List.{length-append}
use Rattle.std.proofs.lemmas.Bool.{cond_both, cond-false, ltb-true, ltb-false}
use Rattle.records.specs.declared.leg.Leg.{Leg}
use Rattle.network.specs.Nets.{Net}
use Rattle.network.proofs.Places.{nth_counted, nth_counted_past, nth_right}
use Rattle.yard.specs.Yards.{full, with_yard, yard_leg, yarded}

module _ (charge : ℕ) (n : Net) where
  -- the network with room
  room : full (length n.balances) (length n.legs) ≡ false → with_yard charge n ≡ yarded charge n
  room e = cond-false (full (length n.balances) (length n.legs)) n (yarded charge n) e

  -- a count that does not change
  pub same_open : n.open_stations ≡ (with_yard charge n).open_stations
  same_open = cond_both (full (length n.balances) (length n.legs)) n (yarded charge n) (λ (k : Net). n.open_stations ≡ k.open_stations) (λ e. refl) (λ e. refl)

  -- a count that does
  pub legs_room : full (length n.balances) (length n.legs) ≡ false → length n.legs + 2 * length n.balances ≡ length (with_yard charge n).legs
  legs_room e =
      let f : ℕ → Leg = yard_leg charge (length n.balances) in
      let p = length-append n.legs (map f (range_with_len 0 (2 * length n.balances))) in
      let q = length-map-range_with_len f 0 (2 * length n.balances) in
      let r : length n.legs + 2 * length n.balances ≡ length (yarded charge n).legs = omega arith in
      r ∙ ap (λ (k : Net). length k.legs) (sym (room e))

  -- the yard's legs, and past them
  pub leg_yard : (l : Leg) (i : ℕ) → full (length n.balances) (length n.legs) ≡ false → length n.legs ≤ i → i < length n.legs + 2 * length n.balances
      → l ≡ yard_leg charge (length n.balances) (i - length n.legs) → Some l ≡ slice_get (with_yard charge n).legs i
  leg_yard l i e h k v =
      let f : ℕ → Leg = yard_leg charge (length n.balances) in
      ap Some v
      ∙ sym (ap (λ (k : Net). slice_get k.legs i) (room e)
      ∙ nth_right n.legs (map f (range_with_len 0 (2 * length n.balances))) i (i - length n.legs) (omega arith)
      ∙ nth_counted f (2 * length n.balances) (i - length n.legs) (omega arith))

  pub leg_past : (i : ℕ) → full (length n.balances) (length n.legs) ≡ false → length n.legs + 2 * length n.balances ≤ i → None ≡ slice_get (with_yard charge n).legs i
  leg_past i e h =
      let f : ℕ → Leg = yard_leg charge (length n.balances) in
      sym (ap (λ (k : Net). slice_get k.legs i) (room e)
      ∙ nth_right n.legs (map f (range_with_len 0 (2 * length n.balances))) i (i - length n.legs) (omega arith)
      ∙ nth_counted_past f (2 * length n.balances) (i - length n.legs) (omega arith))

-- the test as code makes it
pub at_counts : (t : Bool) (s l : ℕ) (n : Net) → s ≡ length n.balances → l ≡ length n.legs → t ≡ full s l → full (length n.balances) (length n.legs) ≡ t
at_counts t s l n p q e = sym (e ∙ ap (λ (x : ℕ). full x l) p ∙ ap (λ (x : ℕ). full (length n.balances) x) q)

-- a leg past what is below, as code answers it
pub leg_answered : (charge : ℕ) (n : Net) (i s m : ℕ) (o : Option Leg) → s ≡ length n.balances → m ≡ length n.legs → false ≡ full s m → length n.legs ≤ i
    → is_some o ≡ ltb i (m + 2 * s) → IfSome o (λ l. l ≡ yard_leg charge s (i - m)) → o ≡ slice_get (with_yard charge n).legs i
leg_answered charge n i s m None p q e h t v =
    let past : m + 2 * s ≤ i = ltb-false i (m + 2 * s) (sym t) in
    leg_past charge n i (at_counts false s m n p q e) (omega arith)
leg_answered charge n i s m (Some l) p q e h t v =
    let here : i < m + 2 * s = ltb-true i (m + 2 * s) (sym t) in
    leg_yard charge n l i (at_counts false s m n p q e) h (omega arith)
    (v ∙ ap (λ (x : ℕ). yard_leg charge x (i - m)) p ∙ ap (λ (x : ℕ). yard_leg charge (length n.balances) (i - x)) q)
