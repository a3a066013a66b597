-- The lines of the canonical text state the stations and legs that it was written from, and so does the text.
--   legs_arcs, stations_back    the legs and the stations that the lines state
--   reads_back                  the law of reading back
use Rattle.std.proofs.Common.{◌≡◌, ℕ, zero, suc, ◌+◌, ◌-◌, ◌<◌, ◌≤◌, eqb, List, [], ◌∷◌, ◌++◌, map, length, ℤ, pos, negsuc, is_some, sym, refl, ap, ◌∙◌, append_assoc, append-nil, arith}
use Rattle.std.specs.List.{range_with_len, AllByRecursion}
use Rattle.std.proofs.lemmas.Bool.{cond-true, cond-false, eq-eqb, ne_eqb}
use Rattle.records.specs.declared.leg.Leg.{Leg}
use Rattle.records.specs.declared.station.Station.{Station}
use Rattle.lines.specs.declared.line.Line.{Line}
use Rattle.lines.specs.declared.line.Line.TheVariants.{Problem, Node}
use Rattle.text_rules.specs.Rules.{nodes_of, arcs_of, arc_lines}
use Rattle.text_rules.specs.Stated.{States, leg_of, legs_of, balance_of, as_station, stations_of}
use Rattle.writer.specs.Canonical.{problem_line, canonical_lines, canonical, ReadBack}
use Rattle.text_rules.specs.Legal.{LegLawful, Legal}
use Rattle.text_rules.proofs.Legal.{legal}
use Rattle.writer.proofs.Spelling.{arc_of, problem_spelt, parted}
use Rattle.writer.proofs.Naming.{node_onto, onto_nodes, onto_arcs, Reached, node_keeps, nodes_reached, arcs_reached}

-- what no node line changes, as the legs that are stated
nodes_keep : {X : Type 0} (f : List Line → X) → ((id : ℕ) (z : ℤ) (before : List Line) → f (Node id z ∷ before) ≡ f before) → (k : ℕ) (stations : List Station) (before : List Line)
    → f (onto_nodes k stations before) ≡ f before
nodes_keep f same k [] before = refl
nodes_keep f same k (s ∷ rest) before =
    nodes_keep f same (k + 1) rest (node_onto (k + 1) s.balance before) ∙ node_keeps f (k + 1) s.balance before (λ w. same (k + 1) w before)

arc_lines_arcs : (legs : List Leg) (before : List Line) → arc_lines (onto_arcs legs before) ≡ arc_lines before + length legs
arc_lines_arcs [] before = omega arith
arc_lines_arcs (leg ∷ rest) before = omega (arith, arc_lines_arcs rest (arc_of leg ∷ before))

-- the line of a leg states that leg
leg_back : (n : ℕ) (leg : Leg) → LegLawful n leg → leg_of (leg.start + 1) (leg.end + 1) leg.capacity leg.charge ≡ leg
leg_back n leg h =
    let from : leg.start + 1 - 1 ≡ leg.start = omega arith in
    let to : leg.end + 1 - 1 ≡ leg.end = omega arith in
    let mark = sym h.unshut in
    λ i. record { start = from i; end = to i; capacity = leg.capacity; charge = leg.charge; mark = mark i }

legs_arcs : (n : ℕ) (legs : List Leg) (before : List Line) → AllByRecursion (LegLawful n) legs → legs_of (onto_arcs legs before) ≡ legs_of before ++ legs
legs_arcs n [] before h = sym (append-nil (legs_of before))
legs_arcs n (leg ∷ rest) before h =
    legs_arcs n rest (arc_of leg ∷ before) h.1
    ∙ append_assoc (legs_of before) (leg_of (leg.start + 1) (leg.end + 1) leg.capacity leg.charge ∷ []) rest
    ∙ ap (λ l. legs_of before ++ (l ∷ rest)) (leg_back n leg h.0)

balance_arcs : (legs : List Leg) (before : List Line) (k : ℕ) → balance_of (onto_arcs legs before) k ≡ balance_of before k
balance_arcs [] before k = refl
balance_arcs (leg ∷ rest) before k = balance_arcs rest (arc_of leg ∷ before) k

-- a node line states the balance of its station and of no other
balance_other : (id : ℕ) (z : ℤ) (before : List Line) (k : ℕ) → (id ≡ k + 1 → ⊥) → balance_of (node_onto id z before) k ≡ balance_of before k
balance_other id z before k ne = node_keeps (λ lines. balance_of lines k) id z before (λ w. cond-false (eqb id (k + 1)) _ _ (ne_eqb id (k + 1) ne))

balance_here : (k : ℕ) (z : ℤ) (before : List Line) → balance_of before k ≡ pos 0 → balance_of (node_onto (k + 1) z before) k ≡ z
balance_here k (pos zero) before e = e
balance_here k (pos (suc n)) before e = cond-true (eqb (k + 1) (k + 1)) _ _ (eq-eqb (k + 1) (k + 1) refl)
balance_here k (negsuc n) before e = cond-true (eqb (k + 1) (k + 1)) _ _ (eq-eqb (k + 1) (k + 1) refl)

balance_below : (k : ℕ) (stations : List Station) (before : List Line) (j : ℕ) → j < k
    → balance_of (onto_nodes k stations before) j ≡ balance_of before j
balance_below k [] before j h = refl
balance_below k (s ∷ rest) before j h =
    balance_below (k + 1) rest (node_onto (k + 1) s.balance before) j (omega arith)
    ∙ balance_other (k + 1) s.balance before j (λ e. omega (arith, e))

-- the stations from k on, by any list of their balances, where no line before spoke of them
stations_back : (k : ℕ) (stations : List Station) (before : List Line) (g : ℕ → ℤ)
    → ((j : ℕ) → g j ≡ balance_of (onto_nodes k stations before) j) → ((j : ℕ) → k ≤ j → balance_of before j ≡ pos 0)
    → map (λ j. as_station (g j)) (range_with_len k (length stations)) ≡ stations
stations_back k [] before g same none = refl
stations_back k (s ∷ rest) before g same none =
    let z = s.balance in
    let more = node_onto (k + 1) z before in
    let here = same k ∙ balance_below (k + 1) rest more k (omega arith) ∙ balance_here k z before (none k (omega arith)) in
    let later = stations_back (k + 1) rest more g same
    (λ j h. balance_other (k + 1) z before j (λ e. omega (arith, e, h)) ∙ none j (omega (arith, h))) in
    λ i. as_station (here i) ∷ later i

module _ (stations : List Station) (legs : List Leg) (l : Legal stations legs) where
  -- the problem line, then with the lines of the stations, then with those of the legs
  abbrev announcing : List Line
  announcing = Problem (length stations) (length legs) ∷ []

  abbrev with_nodes : List Line
  with_nodes = onto_nodes 0 stations announcing

  abbrev all_lines : List Line
  all_lines = onto_arcs legs with_nodes

  no_arcs : arc_lines with_nodes ≡ 0
  no_arcs = nodes_keep arc_lines (λ id z before. refl) 0 stations announcing

  first : Reached (length stations) (length legs) announcing (problem_line (length stations) (length legs) ∷ [])
  first =
      let s = problem_spelt (length stations) (length legs) l.few l.few_legs in
      record {
        spelled = ([], problem_line (length stations) (length legs), refl, refl, s.written);
        no_ends = (s.no_end, tt);
        lawful = (refl, (l.some, l.few, l.few_legs), tt, tt);
        problem = refl;
      }

  reached : Reached (length stations) (length legs) all_lines (canonical_lines stations legs)
  reached =
      arcs_reached (length stations) (length legs) legs with_nodes _ (omega (arith, no_arcs)) l.few l.lawful_legs
      (nodes_reached (length stations) (length legs) 0 stations _ _ (omega arith) l.few l.bounded refl first)

  stations_same : stations ≡ stations_of all_lines
  stations_same =
      sym (ap (λ k. map (λ j. as_station (balance_of all_lines j)) (range_with_len 0 k)) (ap nodes_of reached.problem)
      ∙ stations_back 0 stations announcing (balance_of all_lines) (balance_arcs legs with_nodes) (λ j h. refl))

  legs_same : legs ≡ legs_of all_lines
  legs_same =
      sym (legs_arcs (length stations) legs with_nodes l.lawful_legs
      ∙ ap (λ ls. ls ++ legs) (nodes_keep legs_of (λ id z before. refl) 0 stations announcing))

  stated : length (canonical stations legs) ≤ 65536 → States (canonical stations legs) (record { stations = stations; legs = legs })
  stated short =
      record {
        short = short;
        rows = canonical_lines stations legs;
        parted = parted (canonical_lines stations legs) reached.no_ends;
        lines = all_lines;
        spelled = reached.spelled;
        lawful = reached.lawful;
        complete = (
          ap is_some reached.problem,
          arc_lines_arcs legs with_nodes ∙ ap (λ k. k + length legs) no_arcs
              ∙ omega arith ∙ sym (ap arcs_of reached.problem),
        );
        same = λ i. record { stations = stations_same i; legs = legs_same i };
      }

pub reads_back : (stations : List Station) (legs : List Leg) → ReadBack stations legs
reads_back stations legs = record { states_it = stated stations legs; stated_is_legal = λ text s. legal text stations legs s }
