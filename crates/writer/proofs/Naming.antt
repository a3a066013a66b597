-- The lines that the canonical text is read as, newest first, and that they keep the rules.
--   onto_nodes, onto_arcs       the lines of stations and of legs onto the lines before them
--   node_keeps                  what a node line does not change is the same after a station's line, if it has one
--   Reached                     lawful lines and the rows that spell them, behind a problem line
--   nodes_reached, arcs_reached the lines of stations and of legs keep to that
use Rattle.std.proofs.Common.{◌≡◌, ℕ, zero, suc, ◌+◌, ◌<◌, ◌≤◌, List, [], ◌∷◌, ◌++◌, map, length, ℤ, pos, negsuc, is_some, Some, refl, ap, ◌∙◌, subst, append_assoc, append-nil, arith}
use Rattle.std.specs.List.{AllByRecursion}
use Rattle.std.proofs.ByRecursion.{All-push}
use Rattle.records.specs.declared.leg.Leg.{Leg}
use Rattle.records.specs.declared.station.Station.{Station}
use Rattle.lines.specs.declared.line.Line.{Line}
use Rattle.lines.specs.declared.line.Line.TheVariants.{Node}
use Rattle.text_rules.specs.Rows.{NoEnd}
use Rattle.text_rules.specs.Rules.{problem_in, nodes_of, arcs_of, NODES, ARCS, Announced, arc_lines, InOrder, InRange, InCount}
use Rattle.text_rules.specs.Stated.{Spells, Lawful}
use Rattle.writer.specs.Canonical.{node_line, arc_line, with_node, node_lines}
use Rattle.text_rules.specs.Legal.{LegLawful, Bounded}
use Rattle.writer.proofs.Spelling.{Spelt, node_spelt, arc_of, arc_spelt}

-- a node line onto the lines before it, where the balance is not 0
abbrev pub node_onto : ℕ → ℤ → List Line → List Line
node_onto id (pos zero) before = before
node_onto id (pos (suc n)) before = Node id (pos (suc n)) ∷ before
node_onto id (negsuc n) before = Node id (negsuc n) ∷ before

abbrev pub onto_nodes : ℕ → List Station → List Line → List Line
onto_nodes k [] before = before
onto_nodes k (s ∷ rest) before = onto_nodes (k + 1) rest (node_onto (k + 1) s.balance before)

abbrev pub onto_arcs : List Leg → List Line → List Line
onto_arcs [] before = before
onto_arcs (leg ∷ rest) before = onto_arcs rest (arc_of leg ∷ before)

pub record Reached (n m : ℕ) (before : List Line) (rows : List (List ℕ)) : Type 0 where
  pub spelled : Spells before rows
  pub no_ends : AllByRecursion NoEnd rows
  pub lawful : Lawful before
  pub problem : problem_in before ≡ Some (record { nodes = n; arcs = m })

-- one line more that keeps the rules
module _ (n m : ℕ) (before : List Line) (rows : List (List ℕ)) (r : Reached n m before rows) where
  announced : Announced before
  announced = ap is_some r.problem

  nodes_are : NODES before ≡ n
  nodes_are = ap nodes_of r.problem

  arcs_are : ARCS before ≡ m
  arcs_are = ap arcs_of r.problem

  line_reached : (l : Line) (row : List ℕ) → Spelt l row → InOrder before l → InRange before l → InCount before l
      → problem_in (l ∷ before) ≡ problem_in before → Reached n m (l ∷ before) (rows ++ (row ∷ []))
  line_reached l row s order range count same =
      record {
        spelled = (rows, row, refl, r.spelled, s.written);
        no_ends = All-push NoEnd rows row r.no_ends s.no_end;
        lawful = (order, range, count, r.lawful);
        problem = same ∙ r.problem;
      }

  node_line_reached : (k : ℕ) (z : ℤ) → k < n → n ≤ 240 → Bounded z → arc_lines before ≡ 0
      → Reached n m (Node (k + 1) z ∷ before) (rows ++ (node_line (k + 1) z ∷ []))
  node_line_reached k z inside few h none =
      let low : 1 ≤ k + 1 = omega arith in
      let high : k + 1 ≤ NODES before = omega (arith, nodes_are) in
      line_reached (Node (k + 1) z) (node_line (k + 1) z) (node_spelt (k + 1) z (omega arith) h)
      (announced, none) ((low, high), h.0, h.1) tt refl

  node_reached : (k : ℕ) (z : ℤ) → k < n → n ≤ 240 → Bounded z → arc_lines before ≡ 0
      → Reached n m (node_onto (k + 1) z before) (rows ++ with_node (k + 1) z [])
  node_reached k (pos zero) inside few h none = rw append-nil r
  node_reached k (pos (suc b)) inside few h none = node_line_reached k (pos (suc b)) inside few h none
  node_reached k (negsuc b) inside few h none = node_line_reached k (negsuc b) inside few h none

  arc_reached : (leg : Leg) → n ≤ 240 → LegLawful n leg → arc_lines before < m → Reached n m (arc_of leg ∷ before) (rows ++ (arc_line leg ∷ []))
  arc_reached leg few h room =
      let low : 1 ≤ leg.start + 1 = omega arith in
      let high : leg.start + 1 ≤ NODES before = omega (arith, nodes_are, h.starts) in
      let low' : 1 ≤ leg.end + 1 = omega arith in
      let high' : leg.end + 1 ≤ NODES before = omega (arith, nodes_are, h.ends) in
      let count : arc_lines before < ARCS before = omega (arith, arcs_are) in
      line_reached (arc_of leg) (arc_line leg) (arc_spelt n leg few h) announced
      ((low, high), (low', high'), λ e. h.apart (omega (arith, e)), refl, h.carries, h.costs) count refl

with_node_append : (id : ℕ) (z : ℤ) (rest : List (List ℕ)) → with_node id z [] ++ rest ≡ with_node id z rest
with_node_append id (pos zero) rest = refl
with_node_append id (pos (suc n)) rest = refl
with_node_append id (negsuc n) rest = refl

pub node_keeps : {X : Type 0} (f : List Line → X) (id : ℕ) (z : ℤ) (before : List Line) → ((w : ℤ) → f (Node id w ∷ before) ≡ f before) → f (node_onto id z before) ≡ f before
node_keeps f id (pos zero) before same = refl
node_keeps f id (pos (suc n)) before same = same (pos (suc n))
node_keeps f id (negsuc n) before same = same (negsuc n)

pub nodes_reached : (n m k : ℕ) (stations : List Station) (before : List Line) (rows : List (List ℕ)) → k + length stations ≤ n → n ≤ 240
    → AllByRecursion (λ s. Bounded s.balance) stations → arc_lines before ≡ 0 → Reached n m before rows
    → Reached n m (onto_nodes k stations before) (rows ++ node_lines k stations)
nodes_reached n m k [] before rows within few h none r = rw append-nil r
nodes_reached n m k (s ∷ rest) before rows within few h none r =
    let z = s.balance in
    let row = with_node (k + 1) z [] in
    let one = node_reached n m before rows r k z (omega arith) few h.0 none in
    let all = nodes_reached n m (k + 1) rest (node_onto (k + 1) z before) (rows ++ row) (omega arith) few h.1 (node_keeps arc_lines (k + 1) z before (λ _. refl) ∙ none) one in
    subst (Reached n m (onto_nodes (k + 1) rest (node_onto (k + 1) z before)))
    (append_assoc rows row (node_lines (k + 1) rest) ∙ ap (λ ls. rows ++ ls) (with_node_append (k + 1) z (node_lines (k + 1) rest))) all

pub arcs_reached : (n m : ℕ) (legs : List Leg) (before : List Line) (rows : List (List ℕ)) → arc_lines before + length legs ≤ m → n ≤ 240
    → AllByRecursion (LegLawful n) legs → Reached n m before rows → Reached n m (onto_arcs legs before) (rows ++ map arc_line legs)
arcs_reached n m [] before rows within few h r = rw append-nil r
arcs_reached n m (leg ∷ rest) before rows within few h r =
    let one = arc_reached n m before rows r leg few h.0 (omega arith) in
    let all = arcs_reached n m rest (arc_of leg ∷ before) (rows ++ (arc_line leg ∷ [])) (omega arith) few h.1 one in
    subst (Reached n m (onto_arcs rest (arc_of leg ∷ before))) (append_assoc rows (arc_line leg ∷ []) (map arc_line rest)) all
