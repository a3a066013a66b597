-- The best plan admits no round trip below zero: one bike sent around it would make a better plan.
use Rattle.std.proofs.Common.{◌≡◌, ℕ, suc, ◌-◌, ◌<◌, ◌≤◌, cond, ltb, List, length, get_or, ℤ, pos, negsuc, ◌+ℤ◌, neg_ℤ, sym, ap, ◌∙◌, subst, arith}
use Rattle.std.proofs.lemmas.Int.{ints}
use Rattle.network.specs.Nets.{Net}
use Rattle.theory.specs.Groups.{whole}
use Rattle.theory.specs.Walks.{Way, rest, go, RoundTrip}
use Rattle.theory.specs.Trails.{Pushed, up, down, Residual}
use Rattle.theory.proofs.Walking
use Rattle.theory.proofs.Pushing
use Rattle.theory.proofs.Cycles
use Rattle.plans.specs.Plans.{leg_at, amount, Obeys, cents, difference, CheapestThenNearest}
use Rattle.plans.specs.Residuals.{forward, backward, CentsStep, BothStep, both_group}
use Rattle.plans.specs.Prices.{BothRoundTrip, CentsRoundTrip}
use Rattle.plans.proofs.Arcing.{arc, arcs_of, no_arc, one_more, one_less, arcs_length, arcs_at, convex_at, gathered_out, gathered_in, paid}
use Rattle.plans.proofs.Best.{with_bikes}

module _ (net : Net) (standing plan : List ℕ) where
  at : (k : ℕ) → k < length net.legs → get_or (arcs_of net standing) k no_arc ≡ arc (leg_at net k) (amount standing k)
  at k h = arcs_at net.legs (amount standing) k h

  among_arcs : (k : ℕ) → k < length net.legs → k < length (arcs_of net standing)
  among_arcs k h = rw (arcs_length net.legs (amount standing)) h

  residual : (u v : ℕ) (c : ℤ × ℤ) → BothStep net standing plan u v c → Residual both_group no_arc (arcs_of net standing) plan u v c
  residual u v c (forward k j p q h e) =
      let a = at k j.there in (
        k,
        up (among_arcs k j.there) (ap (λ z. z.from) a ∙ p) (ap (λ z. z.to) a ∙ q) (subst (λ z. amount plan k < z.room) (sym a) h)
            (e ∙ sym (one_more (leg_at net k).charge (amount standing k) (amount plan k)) ∙ ap (λ z. both_group.add (z.fee (suc (amount plan k))) (both_group.neg (z.fee (amount plan k)))) (sym a)),
      )
  residual u v c (backward k j p q h e) =
      let a = at k j.there in
      let b : ℕ = amount plan k - 1 in
      let s : amount plan k ≡ suc b = omega arith in (
        k,
        down b (among_arcs k j.there) (ap (λ z. z.to) a ∙ p) (ap (λ z. z.from) a ∙ q) s
            (e ∙ ap (λ z. (neg_ℤ (pos (leg_at net k).charge), cond (ltb (amount standing k) z) (negsuc 0) (pos 1))) s ∙ sym (one_less (leg_at net k).charge (amount standing k) b) ∙ ap (λ z. both_group.add (z.fee b) (both_group.neg (z.fee (suc b)))) (sym a)),
      )

  -- the plan after one bike went around
  still_obeys : (o : ℕ) (ks ys : List ℕ) (c : ℤ × ℤ) → Obeys net plan → Pushed both_group no_arc (arcs_of net standing) plan 1 o o ks c ys → Obeys net ys
  still_obeys o ks ys c h p =
      let l : length ys ≡ length net.legs = p.as_long ∙ arcs_length net.legs (amount standing) in
      record {
        fits = record { one_each = l; within = λ k i. subst (λ z. amount ys k ≤ z.room) (at k i) (p.fits k (among_arcs k i)) };
        balanced = λ v i. omega (arith, ints, h.balanced v i, p.moved v, gathered_out net standing ys v l, gathered_in net standing ys v l, gathered_out net standing plan v h.fits.one_each, gathered_in net standing plan v h.fits.one_each);
      }

  costs_more : (o : ℕ) (ks ys : List ℕ) (c : ℤ × ℤ) → Obeys net plan → Obeys net ys → Pushed both_group no_arc (arcs_of net standing) plan 1 o o ks c ys → ◌≡◌ {A = ℤ × ℤ} (pos (cents net ys), pos (difference net standing ys)) (both_group.add (pos (cents net plan), pos (difference net standing plan)) c)
  costs_more o ks ys c h k p = sym (paid net standing ys k.fits.one_each) ∙ p.paid ∙ ap (λ z. both_group.add z c) (paid net standing plan h.fits.one_each)

  not_below : (c : ℤ × ℤ) (x y x' y' : ℕ) → ◌≡◌ {A = ℤ × ℤ} (pos x', pos y') (both_group.add (pos x, pos y) c) → x ≤ x' → (x ≡ x' → y ≤ y') → both_group.le both_group.zero c
  not_below c x y x' y' e h k =
      let p : pos x' ≡ pos x +ℤ c.0 = ap (λ z. z.0) e in
      let q : pos y' ≡ pos y +ℤ c.1 = ap (λ z. z.1) e in
      (omega (arith, ints), λ r. let s : x ≡ x' = omega (arith, ints) in omega (arith, ints, k s))

  no_residual_trip : CheapestThenNearest net standing plan → RoundTrip both_group (Residual both_group no_arc (arcs_of net standing) plan) → ⊥
  no_residual_trip b t =
      let r = Cycles.around both_group no_arc (arcs_of net standing) plan (convex_at net.legs (amount standing)) t in
      let o = b.obeys in
      let e : length plan ≡ length (arcs_of net standing) = o.fits.one_each ∙ sym (arcs_length net.legs (amount standing)) in
      let f : (k : ℕ) → k < length (arcs_of net standing) → get_or plan k 0 ≤ (get_or (arcs_of net standing) k no_arc).room =
      λ k i. let h : k < length net.legs = rw (arcs_length net.legs (amount standing)) at i in subst (λ z. amount plan k ≤ z.room) (sym (at k h)) (o.fits.within k h) in
      let p = Pushing.push both_group no_arc (arcs_of net standing) plan e f r.trail in
      let q = still_obeys t.at r.legs r.after t.total o p in
      t.below (not_below t.total _ _ _ _ (costs_more t.at r.legs r.after t.total o q p) (b.cheapest r.after q) (b.nearest r.after q))

  pub no_both_trip : CheapestThenNearest net standing plan → BothRoundTrip net standing plan → ⊥
  no_both_trip b t = no_residual_trip b (Walking.trip_map both_group residual t)

  -- a way at its cents, with its bikes
  way_with_bikes : {o v : ℕ} {us : List ℕ} {t : ℤ} → Way whole (CentsStep net plan) o v us t → (b : ℤ) × Way both_group (BothStep net standing plan) o v us (t, b)
  way_with_bikes rest = (pos 0, rest)
  way_with_bikes (go {u = u} {v = v} {c = c} w s) =
      let r = way_with_bikes w in
      let q = with_bikes net standing plan u v c s in
      (r.0 +ℤ q.0, go r.1 q.1)

  pub no_cents_trip : CheapestThenNearest net standing plan → CentsRoundTrip net plan → ⊥
  no_cents_trip b t =
      let w = way_with_bikes t.way in
      no_both_trip b (record { at = t.at; through = t.through; total = (t.total, w.0); way = w.1; once = t.once; below = λ h. t.below h.0 })
