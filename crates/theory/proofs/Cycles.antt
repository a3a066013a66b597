-- A round trip below zero passes no leg twice, so one bike can be sent around it.
use Rattle.std.proofs.Common.{◌≡◌, ℕ, suc, ◌⊎◌, List, [], ◌∷◌, get_or, sym, refl, ◌∙◌, subst, inl, inr, add-one, arith}
use native.Mathlib.Decide.{ℕ_discrete}
use Rattle.theory.specs.Groups.{OrderedGroup, cancel}
use Rattle.theory.specs.Arcs.{Arc, Convex}
use Rattle.theory.specs.Walks.{Absent, Distinct, Way, rest, go, RoundTrip}
use Rattle.theory.specs.Trails.{Trail, none, more, less, Hop, up, down, Residual, Around}
use Rattle.theory.proofs.Adding

module _ {A : Type 0} (G : OrderedGroup A) (d : Arc A) (ls : List (Arc A)) (xs : List ℕ) where
  abbrev arc : ℕ → Arc A
  arc k = get_or ls k d

  abbrev hop : ℕ → ℕ → ℕ → A → Type 0
  hop = Hop G d ls xs

  record Longer (o v k : ℕ) (ks : List ℕ) (t : A) : Type 0 where
    after : List ℕ
    trail : Trail G d ls xs 1 o v (k ∷ ks) t after

  extend : {o u v k : ℕ} {ks ys : List ℕ} {t c : A} → Trail G d ls xs 1 o u ks t ys → hop k u v c → Absent k ks → Longer o v k ks (G.add t c)
  extend {k = k} t (up h e f r q) a = rw (q, ← f, ← (add-one (get_or xs k 0))) (record { after = _; trail = more k t h a e (omega arith) })
  extend {k = k} t (down j h e f r q) a = rw (q, ← f, ← (add-one j)) (record { after = _; trail = less k j t h a e (omega arith) })

  -- a leg of which one end is not among the stations
  Clear : ℕ → List ℕ → Type 0
  Clear k us = Absent (arc k).from us ⊎ Absent (arc k).to us

  target : {k u w : ℕ} {c : A} (us : List ℕ) → hop k u w c → Absent w us → Clear k us
  unfolding Clear
  target us (up h e f r q) a = inr (rw f a)
  target us (down j h e f r q) a = inl (rw f a)

  source : {k u w : ℕ} {c : A} (us : List ℕ) → hop k u w c → Absent u us → Clear k us
  unfolding Clear
  source us (up h e f r q) a = inl (rw e a)
  source us (down j h e f r q) a = inr (rw e a)

  not_clear : {k u w : ℕ} {c : A} (us : List ℕ) → hop k u w c → Clear k (w ∷ u ∷ us) → ⊥
  unfolding Clear
  not_clear us (up h e f r q) (inl a) = a.1.0 e
  not_clear us (up h e f r q) (inr a) = a.0 f
  not_clear us (down j h e f r q) (inl a) = a.0 f
  not_clear us (down j h e f r q) (inr a) = a.1.0 e

  clear_tail : (k z : ℕ) (us : List ℕ) → Clear k (z ∷ us) → Clear k us
  unfolding Clear
  clear_tail k z us (inl a) = inl a.1
  clear_tail k z us (inr a) = inr a.1

  -- a way that meets no station twice, as a trail
  record Made (o u : ℕ) (us : List ℕ) (t : A) : Type 0 where
    legs : List ℕ
    after : List ℕ
    trail : Trail G d ls xs 1 o u legs t after
    clear : (k : ℕ) → Clear k (u ∷ us) → Absent k legs

  make : {o u : ℕ} {us : List ℕ} {t : A} → Way G (Residual G d ls xs) o u us t → Distinct (u ∷ us) → Made o u us t
  make rest h = record { legs = []; after = xs; trail = none; clear = λ k _. tt }
  make (go {u = u} {v = z} {us = us} {t = t} {c = c} w s) h =
      let m = make w h.1 in
      let l = extend m.trail s.1 (m.clear s.0 (target (u ∷ us) s.1 h.0)) in
      record {
        legs = s.0 ∷ m.legs;
        after = l.after;
        trail = l.trail;
        clear = λ k a. ((λ e. not_clear us s.1 (subst (λ i. Clear i (z ∷ u ∷ us)) e a)), m.clear k (clear_tail k z (u ∷ us) a));
      }

  stays : {o u : ℕ} {us : List ℕ} {t : A} → Way G (Residual G d ls xs) o u us t → Absent o us → (u ≡ o) × (t ≡ G.zero)
  stays rest a = (refl, refl)
  stays (go w s) a = absurd (a.0 (sym (stays w a.1).0))

  -- ---- there and back over one leg is not below zero
  six : (m n p q : A) → G.add (G.add m m) (G.add (G.add p n) (G.add q n)) ≡ G.add (G.add n m) (G.add (G.add n m) (G.add p q))
  six m n p q = simp (G.assoc, G.comm, Adding.left_comm G)

  split : (m p q : A) → G.add (G.add m m) (G.add (G.add p (G.neg m)) (G.add q (G.neg m))) ≡ G.add p q
  split m p q = six m (G.neg m) p q ∙ rw (G.inverse m) (G.unit _ ∙ G.unit _)

  there : (f : ℕ → A) (j : ℕ) → Convex G f → G.le G.zero (G.add (G.add (f j) (G.neg (f (suc j)))) (G.add (f (suc (suc j))) (G.neg (f (suc j)))))
  unfolding Convex
  there f j c = cancel G _ _ (G.add (f (suc j)) (f (suc j))) (Adding.regrouped G (c j) (Adding.unit_right G _) (split (f (suc j)) (f j) (f (suc (suc j)))))

  to_and_fro : {k u v w : ℕ} {a b : A} → Convex G (arc k).fee → (u ≡ v → ⊥) → hop k v u a → hop k u w b → (w ≡ v) × G.le G.zero (G.add a b)
  to_and_fro {k = k} c n (up h e f r q) (up h' e' f' r' q') = absurd (n (sym e' ∙ e))
  to_and_fro {k = k} c n (up h e f r q) (down j h' e' f' r' q') = (sym f' ∙ e, rw (q, q', r') (subst (G.le G.zero) (G.comm _ _) (there (arc k).fee j c)))
  to_and_fro {k = k} c n (down j h e f r q) (up h' e' f' r' q') = (sym f' ∙ e, rw (q, q', r) (there (arc k).fee j c))
  to_and_fro {k = k} c n (down j h e f r q) (down j' h' e' f' r' q') = absurd (n (sym e' ∙ e))

  -- ---- the round trip
  record Closed (o u : ℕ) (t : A) : Type 0 where
    legs : List ℕ
    after : List ℕ
    trail : Trail G d ls xs 1 o u legs t after

  close : ((k : ℕ) → Convex G (arc k).fee) → {o z : ℕ} {us : List ℕ} {t : A} → Way G (Residual G d ls xs) o z us t → z ≡ o → Distinct us → (G.le G.zero t → ⊥) → Closed o z t
  close c rest e h g = record { legs = []; after = xs; trail = none }
  close c (go rest s) e h g = let l = extend none s.1 tt in record { legs = _; after = _; trail = l.trail }
  close c {o = o} {z = z} (go {u = u} {c = b} (go {u = u'} {us = us} {t = t} {c = a} w s) r) e h g =
      elim (ℕ_discrete r.0 s.0) [
        | yes i ↦
            let p = to_and_fro (c r.0) h.0.0 (subst (λ k. hop k u' u a) (sym i) s.1) r.1 in
            let y : u' ≡ o = sym p.0 ∙ e in
            let n : t ≡ G.zero = (stays w (rw y at h.1.0)).1 in
            absurd (g (rw (n, G.unit a) p.1))
        | no n ↦
            let m = make w h.1 in
            let l = extend m.trail s.1 (m.clear s.0 (target (u' ∷ us) s.1 h.0)) in
            let q = extend l.trail r.1 (n, m.clear r.0 (source (u' ∷ us) r.1 h.0)) in
            record { legs = _; after = _; trail = q.trail }
      ]

  pub around : ((k : ℕ) → Convex G (arc k).fee) → (trip : RoundTrip G (Residual G d ls xs)) → Around G d ls xs trip.at trip.total
  around c trip = let r = close c trip.way refl trip.once trip.below in record { legs = r.legs; after = r.after; trail = r.trail }
