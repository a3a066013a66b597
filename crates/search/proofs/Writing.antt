-- Labels written one by one, at the end of a round.
use Rattle.std.proofs.Common.{◌≡◌, ℕ, ◌+◌, ◌<◌, ◌≤◌, Bool, true, false, ◌||◌, List, ◌++◌, length, take, drop, length-take, set, Some, None, Option, sym, refl, ap, ◌∙◌, inl, inr, arith}
use native.Mathlib.Decide.{ℕ_discrete}
use Rattle.std.proofs.lemmas.List.{drop_all, get_or-take}
use Rattle.std.proofs.lemmas.Slice.{drop-append-drop}
use Rattle.std.proofs.Math.ListN.{get_or-append}
use Rattle.std.proofs.lemmas.Bool.{both_ways, or_cases, or_parts}
use Rattle.theory.specs.declared.Grouped.{Ghosts as Kind}
use Rattle.search.specs.Labels.{label_at, committed, committed_by, unlabelled}
use Rattle.search.specs.Rounds.{Begins, Commits}
use Rattle.search.specs.declared.label.Arrival.{Arrival}
use Rattle.search.specs.declared.label.Label.{Label}
use Rattle.search.proofs.Optional.{label_same, label_other}

-- ---- at the end of a round
pub record Committing {C : Type 0} (i : ℕ) (r : Bool) (old ls : List (Label C)) : Type 0 where
  pub each : (v : ℕ) → v < i → label_at ls v ≡ committed (label_at old v)
  pub rest : (v : ℕ) → i ≤ v → label_at ls v ≡ label_at old v
  pub none : r ≡ false → (v : ℕ) → v < i → (label_at old v).better ≡ None
  pub some : r ≡ true → (v : ℕ) × (x : Arrival C) × (v < i) × ((label_at old v).better ≡ Some x)

-- a label that is marked as changed has found something, and else not
marked_some : {C : Type 0} (b o : Option (Arrival C)) → (committed_by b o).changed ≡ true → (x : Arrival C) × (b ≡ Some x)
marked_some None o e = absurd (both_ways false refl e)
marked_some (Some x) o e = (x, refl)

marked_none : {C : Type 0} (b o : Option (Arrival C)) → (committed_by b o).changed ≡ false → b ≡ None
marked_none None o e = refl
marked_none (Some x) o e = absurd (both_ways true e refl)

-- one label more, of which l is the one before
pub committing_more : {C : Type 0} (i : ℕ) (r : Bool) (l next : Label C) (old ls : List (Label C)) → i < length ls → l ≡ label_at ls i → next ≡ committed l → Committing i r old ls → Committing (i + 1) (r || next.changed) old (set ls i next)
committing_more {C} i r l next old ls h p q b =
    record {
      each = λ v k. elim (ℕ_discrete v i) [ yes w ↦ rw (w, label_same ls i next h) now | no w ↦ label_other ls i v next w ∙ b.each v (omega arith) ];
      rest = λ v k. label_other ls i v next (λ w. omega arith) ∙ b.rest v (omega arith);
      none = λ z v k. let o = or_parts r next.changed z in elim (ℕ_discrete v i) [
        | yes w ↦ rw w (marked_none (label_at old i).better (label_at old i).arrival (sym (ap (λ x. x.changed) now) ∙ o.1))
        | no w ↦ b.none o.0 v (omega arith)
      ];
      some = λ z. elim (or_cases r next.changed z) [
        | inl o ↦ let x = b.some o in (x.0, x.1, omega (arith, x.2), x.3)
        | inr o ↦ let x = marked_some (label_at old i).better (label_at old i).arrival (sym (ap (λ x. x.changed) now) ∙ o) in (i, x.0, omega arith, x.1)
      ];
    }
  where
    now : next ≡ committed (label_at old i)
    now = q ∙ ap committed (p ∙ b.rest i (omega arith))

-- all labels
pub committing_all : {C : Type 0} (i : ℕ) (r : Bool) (old ls : List (Label C)) → length old ≡ i → length ls ≡ i → Committing i r old ls → Commits (length old) r old ls
committing_all i r old ls h k b =
    record {
      beyond = drop_all (length old) ls (omega arith) ∙ sym (drop_all (length old) old (omega arith));
      each = λ v l. b.each v (omega arith);
      none = λ e v l. b.none e v (omega arith);
      some = λ e. let x = b.some e in (x.0, x.1, omega (arith, x.2), x.3);
    }

-- ---- the labels of the stations stand before the others
module _ {C : Type 0} (n : ℕ) (labels ls : List (Label C)) (few : n ≤ length labels) (long : length ls ≡ n) where
  all : length (take n labels) ≡ n
  all = omega (arith, length-take n labels)

  front : (v : ℕ) → v < n → label_at (ls ++ drop n labels) v ≡ label_at ls v
  front v l = get_or-append ls (drop n labels) unlabelled v (omega arith)

  before : (v : ℕ) → v < n → label_at (take n labels) v ≡ label_at labels v
  before v l = get_or-take n labels v unlabelled l

  pub begins_before : (K : Kind C) (size : C → ℕ) (f : ℕ → Bool) → Begins K size (length (take n labels)) f (take n labels) ls → Begins K size n f labels (ls ++ drop n labels)
  begins_before K size f b =
      record {
        z = b.z;
        zero = b.zero;
        beyond = drop-append-drop n labels ls n (omega arith) long;
        each = λ v l. front v l ∙ b.each v (omega (arith, all));
      }

  pub commits_before : (r : Bool) → Commits (length (take n labels)) r (take n labels) ls → Commits n r labels (ls ++ drop n labels)
  commits_before r b =
      record {
        beyond = drop-append-drop n labels ls n (omega arith) long;
        each = λ v l. front v l ∙ b.each v (omega (arith, all)) ∙ ap committed (before v l);
        none = λ e v l. sym (ap (λ x. x.better) (before v l)) ∙ b.none e v (omega (arith, all));
        some = λ e. let x = b.some e in let l : x.0 < n = omega (arith, all, x.2) in (x.0, x.1, l, sym (ap (λ x. x.better) (before x.0 l)) ∙ x.3);
      }
