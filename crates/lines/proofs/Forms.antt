-- Scanning finds a line exactly where the bytes spell one.
--   written_scan     a line that the bytes spell is found
--   scan_written     the line found is one that the bytes spell
--   spells           both, as the forms judge it
use Rattle.std.proofs.Common.{◌≡◌, ℕ, eqb, List, [], ◌∷◌, Some, None, codes, Option, sym, refl, inl, inr, append-nil}
use Rattle.std.proofs.lemmas.Bool.{eqb-true, cond_both}
use Rattle.lines.specs.declared.line.Line.{Line}
use Rattle.lines.specs.declared.line.Line.TheVariants.{Comment, Problem, Node, Arc}
use Rattle.lines.specs.Grammar.{Spelled, Written}
use Rattle.lines.specs.Scan.{scan, comment, problem, node, arc}
use Rattle.lines.proofs.Fronts.{numeral_of, last_numeral, last_signed, ended_from, by_word, by_field, by_flow}

pub written_scan : (l : Line) (bs : List ℕ) → Written l bs → scan bs ≡ Some l
written_scan Comment bs (inl e) = rw e
written_scan Comment bs (inr (any, e)) = rw e
written_scan (Problem nodes arcs) bs (n, a, p, q, e) =
    rw (e, numeral_of n (32 ∷ a) nodes p refl, last_numeral a arcs q)
written_scan (Node id flow) bs (i, f, p, q, e) =
    rw (e, numeral_of i (32 ∷ f) id p refl, last_signed f flow q)
written_scan (Arc source target low capacity cost) bs (s, t, l, c, k, ps, pt, pl, pc, pk, e) =
    rw (
      e,
      numeral_of s _ source ps refl,
      numeral_of t _ target pt refl,
      numeral_of l _ low pl refl,
      numeral_of c _ capacity pc refl,
      last_numeral k cost pk,
    )

-- the forms, by what follows the first letter
comment_written : (s : List ℕ) (l : Line) → comment s ≡ Some l → Written l (99 ∷ s)
comment_written [] l e = let q : l ≡ Comment = cc in rw q (inl refl)
comment_written (b ∷ s) l e =
    cond_both (eqb b 32) (Some Comment) None (λ o. o ≡ Some l → Written l (99 ∷ b ∷ s))
    (λ t e. let q : l ≡ Comment = cc in rw (q, eqb-true b 32 t) (inr (s, refl)))
    (λ _ z. cc)
    e

problem_written : (s : List ℕ) (l : Line) → problem s ≡ Some l → Written l (112 ∷ s)
problem_written s l e =
    by_word (codes " min") s _ l e λ s₁ i₁ e.
    by_field s₁ _ l e λ n s₂ nodes p i₂ e.
    by_field s₂ _ l e λ a s₃ arcs q i₃ e.
    let z = ended_from s₃ (Problem nodes arcs) l e in
    rw (sym z.1) (n, a, p, q, cc (append-nil a))

node_written : (s : List ℕ) (l : Line) → node s ≡ Some l → Written l (110 ∷ s)
node_written s l e =
    by_field s _ l e λ i s₁ id p i₁ e.
    by_flow s₁ _ l e λ f s₂ flow q i₂ e.
    let z = ended_from s₂ (Node id flow) l e in
    rw (sym z.1) (i, f, p, q, cc (append-nil f))

arc_written : (s : List ℕ) (l : Line) → arc s ≡ Some l → Written l (97 ∷ s)
arc_written s l e =
    by_field s _ l e λ a s₁ source pa i₁ e.
    by_field s₁ _ l e λ b s₂ target pb i₂ e.
    by_field s₂ _ l e λ c s₃ low pc i₃ e.
    by_field s₃ _ l e λ d s₄ capacity pd i₄ e.
    by_field s₄ _ l e λ k s₅ cost pk i₅ e.
    let z = ended_from s₅ (Arc source target low capacity cost) l e in
    rw (sym z.1) (a, b, c, d, k, pa, pb, pc, pd, pk, cc (append-nil k))

pub scan_written : (l : Line) (bs : List ℕ) → scan bs ≡ Some l → Written l bs
scan_written l [] e = cc
scan_written l (b ∷ s) e =
    let P : Option Line → Type 0 = λ o. o ≡ Some l → Written l (b ∷ s) in
    cond_both (eqb b 99) (comment s) _ P (λ t e. rw (eqb-true b 99 t) (comment_written s l e))
    (λ _. cond_both (eqb b 112) (problem s) _ P (λ t e. rw (eqb-true b 112 t) (problem_written s l e))
    (λ _. cond_both (eqb b 110) (node s) _ P (λ t e. rw (eqb-true b 110 t) (node_written s l e))
    (λ _. cond_both (eqb b 97) (arc s) None P (λ t e. rw (eqb-true b 97 t) (arc_written s l e)) (λ _ z. cc))))
    e

pub spells : (o : Option Line) (bs : List ℕ) → o ≡ scan bs → Spelled o bs
spells None bs e = λ l w. let q = written_scan l bs w in cc
spells (Some l) bs e = (scan_written l bs (sym e), λ k w. let q = written_scan k bs w in cc)
