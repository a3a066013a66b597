-- Rounds of relaxing: one round more, and the end.
use Rattle.std.proofs.Common.{◌≡◌, ℕ, suc, ◌*◌, ◌<◌, ◌≤◌, Bool, true, false, cond, ◌⊎◌, List, [], ◌∷◌, length, Some, None, Option, sym, refl, ap, ◌∙◌, subst, inl, inr, arith}
use Rattle.std.proofs.lemmas.Option.{none-some, same_Some}
use Rattle.std.proofs.lemmas.Bool.{cases_Bool, both_ways}
use Rattle.std.specs.Option.{option_or}
use Rattle.theory.specs.declared.Grouped.{Ghosts as Kind}
use Rattle.theory.specs.Walks.{Walk, start, step, AtMost}
use Rattle.theory.proofs.Adding.{shift_right}
use Rattle.theory.proofs.Walking.{at_most_up}
use Rattle.steps.specs.declared.step.Step.{Step}
use Rattle.search.specs.Labels.{label_at, best, held, committed_by}
use Rattle.search.specs.Sweeps.{Sweep, Visited}
use Rattle.search.specs.Rounds.{Attained, CameBy, Came, After, Late, Commits, Still}
use Rattle.search.specs.declared.label.Arrival.{Arrival}
use Rattle.search.specs.declared.label.Label.{Label}
use Rattle.search.proofs.Optional.{option_cases, held_at, held_is, turned, cancel_right}

-- one round more
module _ {C : Type 0} (K : Kind C) (size : C → ℕ) (n : ℕ) (F : ℕ → Type 0) (S : ℕ → ℕ → K.Member → Type 0) (T : Step → ℕ → ℕ → K.Member → Type 0)
    (starts_below : (v : ℕ) → F v → v < n) (ends : (u v : ℕ) (c : K.Member) → S u v c → (u < n) × (v < n)) (into : (s : Step) (u v : ℕ) (c : K.Member) → T s u v c → S u v c) (out : (u v : ℕ) (c : K.Member) → S u v c → (s : Step) × T s u v c)
    (k : ℕ) (r : Bool) (old mid new : List (Label C)) (a : After K size n F S T k old) (s : Sweep K size n T old mid) (done : (u : ℕ) → u < n → Visited K size n T u old mid) (p : Commits n r mid new) where
  -- a station whose label changes in this round, or does not
  record Changes (v : ℕ) : Type 0 where
    to : Arrival C
    found : (label_at mid v).better ≡ Some to
    after : (label_at new v).arrival ≡ Some to
    marked : (label_at new v).changed ≡ true

  record Stays (v : ℕ) : Type 0 where
    found : (label_at mid v).better ≡ None
    after : (label_at new v).arrival ≡ (label_at old v).arrival
    marked : (label_at new v).changed ≡ false

  turn : (v : ℕ) → v < n → Changes v ⊎ Stays v
  turn v h =
      let e = p.each v h in
      elim (option_cases (label_at mid v).better) [
        | inl q ↦ inr (record {
          found = q;
          after = ap (λ l. l.arrival) e ∙ ap (λ b. (committed_by b (label_at mid v).arrival).arrival) q ∙ s.arrival v;
          marked = ap (λ l. l.changed) e ∙ ap (λ b. (committed_by b (label_at mid v).arrival).changed) q;
        })
        | inr q ↦ inl (record {
          to = q.0;
          found = q.1;
          after = ap (λ l. l.arrival) e ∙ ap (λ b. (committed_by b (label_at mid v).arrival).arrival) q.1;
          marked = ap (λ l. l.changed) e ∙ ap (λ b. (committed_by b (label_at mid v).arrival).changed) q.1;
        })
      ]

  -- labels only fall
  fallen : (v : ℕ) (y : Arrival C) → v < n → (g : Changes v) → (label_at old v).arrival ≡ Some y → K.group.le (K.worth y.total) (K.worth g.to.total) → ⊥
  fallen v y h g e = s.lower v g.to y h g.found e

  falls : (v : ℕ) (t : K.Member) → v < n → AtMost K.group (held K (label_at old v).arrival) t → AtMost K.group (held K (label_at new v).arrival) t
  falls v t h q =
      elim (turn v h) [
        | inl g ↦ let y = held_at K (label_at old v).arrival t q in
            held_is K (label_at new v).arrival g.to t g.after (K.group.le_trans _ _ _ (turned K.group _ _ (fallen v y.0 h g y.1)) y.2)
        | inr g ↦ subst (λ o. AtMost K.group (held K o) t) (sym g.after) q
      ]

  -- a new label is the best of the round
  best_new : (v : ℕ) (t : K.Member) → v < n → AtMost K.group (best K (label_at mid v)) t → AtMost K.group (held K (label_at new v).arrival) t
  best_new v t h q =
      elim (turn v h) [
        | inl g ↦ held_is K (label_at new v).arrival g.to t g.after (subst (λ b. AtMost K.group (held K (option_or b (label_at mid v).arrival)) t) g.found q)
        | inr g ↦
            let q' : AtMost K.group (held K (label_at mid v).arrival) t = subst (λ b. AtMost K.group (held K (option_or b (label_at mid v).arrival)) t) g.found q in
            subst (λ o. AtMost K.group (held K o) t) (s.arrival v ∙ sym g.after) q'
      ]

  -- every step from a label of the round before is relaxed
  relax_all : (u v : ℕ) (c : K.Member) (y : Arrival C) → S u v c → (label_at old u).arrival ≡ Some y → AtMost K.group (held K (label_at new v).arrival) (K.group.add (K.worth y.total) c)
  relax_all u v c y q e =
      elim (cases_Bool (label_at old u).changed) [
        | inl b ↦ let t = out u v c q in best_new v _ (ends u v c q).1 (done u (ends u v c q).0 t.0 y b e v c t.1)
        | inr b ↦ falls v _ (ends u v c q).1 (a.relaxed u v c y q b e)
      ]

  reached : {v : ℕ} {us : List ℕ} {t : K.Member} → Walk K.group F S v us t → length us ≤ suc k → AtMost K.group (held K (label_at new v).arrival) t
  reached (start {v = v} f) l = falls v K.group.zero (starts_below v f) (a.reach v [] K.group.zero (start f) (omega arith))
  reached (step {u = u} {v = v} {us = us} {t = t} {c = c} w q) l =
      let y = held_at K (label_at old u).arrival t (a.reach u us t w (omega arith)) in
      at_most_up K.group _ _ _ (shift_right K.group _ _ c y.2) (relax_all u v c y.0 q y.1)

  -- ---- the round in which labels were found
  abbrev since' : ℕ → ℕ
  since' v = cond (label_at new v).changed (suc k) (a.since v)

  now_found : (v : ℕ) → (label_at new v).changed ≡ true → since' v ≡ suc k
  now_found v e = ap (λ b. cond b (suc k) (a.since v)) e

  found_before : (v : ℕ) → (label_at new v).changed ≡ false → since' v ≡ a.since v
  found_before v e = ap (λ b. cond b (suc k) (a.since v)) e

  early' : (v : ℕ) → since' v ≤ suc k
  early' v = elim (cases_Bool (label_at new v).changed) [ inl e ↦ rw (now_found v e) (omega arith) | inr e ↦ rw (found_before v e) (omega (arith, a.early v)) ]

  -- ---- last steps
  -- from a label y at u that may have fallen, where the total of x is at least that beyond y
  came_from : (u v : ℕ) (c : K.Member) (l : Step) (x y : Arrival C) → u < n → (label_at old u).arrival ≡ Some y → x.last ≡ Some l → T l u v c → K.group.le (K.group.add (K.worth y.total) c) (K.worth x.total) → ((label_at new u).changed ≡ false → K.group.le (K.worth x.total) (K.group.add (K.worth y.total) c) → since' u < since' v) → CameBy K size n F S T new since' v x
  came_from u v c l x y h e b t above earlier =
      elim (turn u h) [
        | inl g ↦ record {
          from = u;
          arrival = g.to;
          cost = c;
          last = l;
          there = g.after;
          by = b;
          step = t;
          above = K.group.le_trans _ _ _ (shift_right K.group _ _ c (turned K.group _ _ (fallen u y h g e))) above;
          earlier = λ q. absurd (fallen u y h g e (cancel_right K.group _ _ c (K.group.le_trans _ _ _ above q)));
        }
        | inr g ↦ record { from = u; arrival = y; cost = c; last = l; there = g.after ∙ e; by = b; step = t; above = above; earlier = earlier g.marked }
      ]

  came_now : (v : ℕ) (x : Arrival C) → v < n → (label_at mid v).better ≡ Some x → (label_at new v).changed ≡ true → CameBy K size n F S T new since' v x
  came_now v x h e q =
      let f = s.found v x h e in
      came_from f.from v f.cost f.last x f.arrival (ends _ _ _ (into _ _ _ _ f.step)).0 f.there f.by f.step (rw f.sum (K.group.le_refl _))
      (λ b _. rw (now_found v q, found_before f.from b) (omega (arith, a.early f.from)))

  came_before : (v : ℕ) (x : Arrival C) → (label_at new v).changed ≡ false → Came K size n F S T old a.since v x → Came K size n F S T new since' v x
  came_before v x q (inl z) = inl z
  came_before v x q (inr f) =
      inr (came_from f.from v f.cost f.last x f.arrival (ends _ _ _ (into _ _ _ _ f.step)).0 f.there f.by f.step f.above
      (λ b g. rw (found_before v q, found_before f.from b) (f.earlier g)))

  came' : (v : ℕ) (x : Arrival C) → v < n → (label_at new v).arrival ≡ Some x → Came K size n F S T new since' v x
  came' v x h e =
      elim (turn v h) [
        | inl g ↦ let q : g.to ≡ x = same_Some _ _ (sym g.after ∙ e) in inr (came_now v x h (g.found ∙ ap Some q) g.marked)
        | inr g ↦ came_before v x g.marked (a.came v x h (sym g.after ∙ e))
      ]

  -- ---- walks and sizes
  attained_now : (v : ℕ) (x : Arrival C) → v < n → (label_at mid v).better ≡ Some x → Attained K size n F S T (suc k) v (K.worth x.total)
  attained_now v x h e =
      let f = s.found v x h e in
      let w = a.attained f.from f.arrival (ends _ _ _ (into _ _ _ _ f.step)).0 f.there in
      record { before = f.from ∷ w.before; walk = rw f.sum (step w.walk (into _ _ _ _ f.step)); short = omega (arith, w.short) }

  attained' : (v : ℕ) (x : Arrival C) → v < n → (label_at new v).arrival ≡ Some x → Attained K size n F S T (suc k) v (K.worth x.total)
  attained' v x h e =
      elim (turn v h) [
        | inl g ↦ attained_now v x h (g.found ∙ sym g.after ∙ e)
        | inr g ↦ let w = a.attained v x h (sym g.after ∙ e) in record { before = w.before; walk = w.walk; short = omega (arith, w.short) }
      ]

  small' : (v : ℕ) (x : Arrival C) → v < n → (label_at new v).arrival ≡ Some x → size x.total ≤ suc k * 4294967295
  small' v x h e =
      elim (turn v h) [
        | inl g ↦
            let f = s.found v x h (g.found ∙ sym g.after ∙ e) in
            omega (arith, f.small, a.small f.from f.arrival (ends _ _ _ (into _ _ _ _ f.step)).0 f.there)
        | inr g ↦ omega (arith, a.small v x h (sym g.after ∙ e))
      ]

  calm' : (v : ℕ) → v < n → (label_at new v).better ≡ None
  calm' v h = ap (λ l. l.better) (p.each v h) ∙ calm_by (label_at mid v).better (label_at mid v).arrival
    where
      calm_by : (b o : Option (Arrival C)) → (committed_by b o).better ≡ None
      calm_by None o = refl
      calm_by (Some x) o = refl

  relaxed' : (u v : ℕ) (c : K.Member) (y : Arrival C) → S u v c → (label_at new u).changed ≡ false → (label_at new u).arrival ≡ Some y → AtMost K.group (held K (label_at new v).arrival) (K.group.add (K.worth y.total) c)
  relaxed' u v c y q b e =
      elim (turn u (ends u v c q).0) [
        | inl g ↦ absurd (both_ways _ b g.marked)
        | inr g ↦ relax_all u v c y q (sym g.after ∙ e)
      ]

  pub round_more : After K size n F S T (suc k) new
  round_more =
      record {
        since = since';
        early = early';
        calm = calm';
        small = small';
        attained = attained';
        came = came';
        reach = λ v us t w l. reached w l;
        relaxed = relaxed';
      }

  pub round_still : r ≡ false → Still n new
  round_still e v h =
      elim (turn v h) [ inl g ↦ absurd (none-some g.to (sym (p.none e v h) ∙ g.found)) | inr g ↦ g.marked ]

  pub round_late : r ≡ true → Late K size n F S T (suc k)
  round_late e =
      let q = p.some e in
      let w = attained_now q.0 q.1 q.2 q.3 in
      record {
        at = q.0;
        below = q.2;
        before = w.before;
        total = K.worth q.1.total;
        walk = w.walk;
        no_shorter = λ us z w' l i.
            let y = held_at K (label_at old q.0).arrival z (a.reach q.0 us z w' (omega arith)) in
            s.lower q.0 q.1 y.0 q.2 q.3 y.1 (K.group.le_trans _ _ _ y.2 i);
      }
