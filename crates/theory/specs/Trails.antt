-- Bikes sent along residual steps of different legs.
--   here       a number of bikes at one station, 0 at the others
--   Trail      a plan xs, and what it becomes when b bikes go along residual steps of different legs
--   Pushed     what holds of the plan after it
--   Hop        a residual step over a leg, for one bike
--   Residual   a residual step over some leg
--   Around     a trail for one bike from a station back to it
-- The default arc d stands for a leg that is not there.
use Rattle.std.specs.Prelude.{◌≡◌, ℕ, suc, ◌+◌, ◌<◌, ◌≤◌, cond, List, [], ◌∷◌, length, ◌==◌, slice_index, slice_index_or, slice_set}
use Rattle.theory.specs.Groups.{OrderedGroup}
use Rattle.theory.specs.Arcs.{Arc, gather, fees}
use Rattle.theory.specs.Walks.{Absent}

-- b at the station u, 0 at any other
abbrev pub here : ℕ → ℕ → ℕ → ℕ
here b u w = cond (u == w) b 0

module _ {A : Type 0} (G : OrderedGroup A) (d : Arc A) (ls : List (Arc A)) (xs : List ℕ) where
  -- from o to v over the legs ks (the latest first), at the cost c; the plan is ys then
  pub data Trail (b o : ℕ) : ℕ → List ℕ → A → List ℕ → Type 0 where
    none : Trail b o o [] G.zero xs
    more : {v : ℕ} {ks : List ℕ} {c : A} {ys : List ℕ} (k : ℕ) → Trail b o v ks c ys → k < length ls → Absent k ks → (slice_index_or ls k d).from ≡ v → slice_index xs k + b ≤ (slice_index_or ls k d).room →
        Trail b o (slice_index_or ls k d).to (k ∷ ks) (G.add c (G.add ((slice_index_or ls k d).fee (slice_index xs k + b)) (G.neg ((slice_index_or ls k d).fee (slice_index xs k))))) (slice_set ys k (slice_index xs k + b))
    less : {v : ℕ} {ks : List ℕ} {c : A} {ys : List ℕ} (k j : ℕ) → Trail b o v ks c ys → k < length ls → Absent k ks → (slice_index_or ls k d).to ≡ v → slice_index xs k ≡ j + b →
        Trail b o (slice_index_or ls k d).from (k ∷ ks) (G.add c (G.add ((slice_index_or ls k d).fee j) (G.neg ((slice_index_or ls k d).fee (j + b))))) (slice_set ys k j)

  -- only legs of the trail have changed, all are within their room, the cost has risen by c, and only the two ends send out another number: o sends b bikes more, v sends b less
  pub record Pushed (b o v : ℕ) (ks : List ℕ) (c : A) (ys : List ℕ) : Type 0 where
    pub as_long : length ys ≡ length ls
    pub others : (k : ℕ) → Absent k ks → slice_index ys k ≡ slice_index xs k
    pub fits : (k : ℕ) → k < length ls → slice_index ys k ≤ (slice_index_or ls k d).room
    pub paid : fees G ls ys ≡ G.add (fees G ls xs) c
    pub moved : (w : ℕ) → gather (λ l. l.from) w ls ys + gather (λ l. l.to) w ls xs + here b v w ≡ gather (λ l. l.from) w ls xs + gather (λ l. l.to) w ls ys + here b o w

  -- over the leg k from u to v at the cost c: up with one bike more, down with one bike less
  pub data Hop (k u v : ℕ) (c : A) : Type 0 where
    up : k < length ls → (slice_index_or ls k d).from ≡ u → (slice_index_or ls k d).to ≡ v → slice_index xs k < (slice_index_or ls k d).room → c ≡ G.add ((slice_index_or ls k d).fee (suc (slice_index xs k))) (G.neg ((slice_index_or ls k d).fee (slice_index xs k))) → Hop k u v c
    down : (j : ℕ) → k < length ls → (slice_index_or ls k d).to ≡ u → (slice_index_or ls k d).from ≡ v → slice_index xs k ≡ suc j → c ≡ G.add ((slice_index_or ls k d).fee j) (G.neg ((slice_index_or ls k d).fee (suc j))) → Hop k u v c

  abbrev pub Residual : ℕ → ℕ → A → Type 0
  Residual u v c = (k : ℕ) × Hop k u v c

  -- one bike may go around: a trail from o back to o at the cost t, over different legs
  pub record Around (o : ℕ) (t : A) : Type 0 where
    pub legs : List ℕ
    pub after : List ℕ
    pub trail : Trail 1 o o legs t after
