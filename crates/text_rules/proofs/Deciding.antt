-- The tests of a line decide what the rules ask.
--   header_is, arcs_is   what some lines settled, by the rules' words
--   decides_order, decides_range, decides_room, decides_count   each test holds exactly where its rule is kept
use Rattle.std.proofs.Common.{◌≡◌, ℕ, ◌+◌, ◌≤◌, not, leb, List, [], ◌∷◌, ℤ, pos, negsuc, ◌≤ℤ◌, is_some, Some, None, Decides, Option, sym, refl, ap, arith}
use lib.Signed.{le_z}
use Rattle.std.proofs.lemmas.Int.{ints}
use Rattle.std.proofs.lemmas.Bool.{true≢false}
use Rattle.std.proofs.lemmas.Bool.Decides.{nat_tests, Decides-eqb, Decides-ltb, Decides-and, Decides-not, Decides-like}
use Rattle.lines.specs.declared.line.Line.{Line}
use Rattle.lines.specs.declared.line.Line.TheVariants.{Comment, Problem, Node, Arc}
use Rattle.text_rules.specs.Judging.{in_order, is_node, in_range, has_room, in_count}
use Rattle.text_rules.specs.Reading.{progress_of}
use Rattle.text_rules.specs.Rules.{problem_in, nodes_of, arcs_of, NODES, ARCS, arc_lines, InOrder, IsNode, InRange, HasRoom, InCount}
use Rattle.text_rules.specs.declared.progress.Room.{Room}

pub header_is : (before : List Line) → (progress_of before).header ≡ problem_in before
header_is [] = refl
header_is (Comment ∷ before) = header_is before
header_is (Problem nodes arcs ∷ before) = refl
header_is (Node id flow ∷ before) = header_is before
header_is (Arc source target low capacity cost ∷ before) = header_is before

pub arcs_is : (before : List Line) → (progress_of before).arcs ≡ arc_lines before
arcs_is [] = refl
arcs_is (Comment ∷ before) = arcs_is before
arcs_is (Problem nodes arcs ∷ before) = arcs_is before
arcs_is (Node id flow ∷ before) = arcs_is before
arcs_is (Arc source target low capacity cost ∷ before) = ap (λ n. n + 1) (arcs_is before)

announced_is : (before : List Line) → is_some (progress_of before).header ≡ is_some (problem_in before)
announced_is before = ap is_some (header_is before)

nodes_is : (before : List Line) → nodes_of (progress_of before).header ≡ NODES before
nodes_is before = ap nodes_of (header_is before)

total_is : (before : List Line) → arcs_of (progress_of before).header ≡ ARCS before
total_is before = ap arcs_of (header_is before)

decides_le : (a b : ℕ) → Decides (leb a b) (a ≤ b)
decides_le a b = (λ e. grind (arith, nat_tests), λ h. grind (arith, nat_tests))

decides_none : {X : Type 0} (o : Option X) → Decides (not (is_some o)) (o ≡ None)
decides_none None = (λ _. refl, λ _. refl)
decides_none (Some x) = (λ e. absurd (true≢false (sym e)), λ e. cc)

pub decides_order : (before : List Line) (l : Line) → Decides (in_order (progress_of before) l) (InOrder before l)
decides_order before Comment = (λ _. tt, λ _. refl)
decides_order before (Problem nodes arcs) = rw (announced_is before) (decides_none (problem_in before))
decides_order before (Node id flow) =
    rw (announced_is before, arcs_is before) (Decides-and _ _ (λ e. e, λ e. e) (Decides-eqb (arc_lines before) 0))
decides_order before (Arc source target low capacity cost) = rw (announced_is before) (λ e. e, λ e. e)

decides_node : (before : List Line) (id : ℕ) → Decides (is_node (progress_of before) id) (IsNode before id)
decides_node before id = rw (nodes_is before) (Decides-and _ _ (decides_le 1 id) (decides_le id (NODES before)))

decides_le_int : (a b : ℤ) → Decides (le_z a b) (a ≤ℤ b)
decides_le_int a b = (λ e. grind (arith, ints), λ h. grind (arith, ints))

pub decides_range : (before : List Line) (l : Line) → Decides (in_range (progress_of before) l) (InRange before l)
decides_range before Comment = (λ _. tt, λ _. refl)
decides_range before (Problem nodes arcs) =
    Decides-like _ (λ h. (h.0.0, h.0.1, h.1)) (λ h. ((h.0, h.1), h.2))
    (Decides-and _ _ (Decides-and _ _ (decides_le 1 nodes) (decides_le nodes 240)) (decides_le arcs 3000))
decides_range before (Node id flow) =
    Decides-like _ (λ h. (h.0.0, h.0.1, h.1)) (λ h. ((h.0, h.1), h.2))
    (Decides-and _ _ (Decides-and _ _ (decides_node before id) (decides_le_int (negsuc 499) flow)) (decides_le_int flow (pos 500)))
decides_range before (Arc source target low capacity cost) =
    Decides-like _ (λ h. (h.0.0.0.0.0, h.0.0.0.0.1, h.0.0.0.1, h.0.0.1, h.0.1, h.1))
    (λ h. (((((h.0, h.1), h.2), h.3), h.4), h.5))
    (Decides-and _ _
    (Decides-and _ _
    (Decides-and _ _
    (Decides-and _ _
    (Decides-and _ _ (decides_node before source) (decides_node before target))
    (Decides-not _ (Decides-eqb source target)))
    (Decides-eqb low 0))
    (decides_le capacity 500))
    (decides_le cost 10000))

pub decides_room : (room : Room) (l : Line) → Decides (has_room room l) (HasRoom room l)
decides_room room Comment = (λ _. tt, λ _. refl)
decides_room room (Problem nodes arcs) = Decides-and _ _ (decides_le nodes room.stations) (decides_le arcs room.legs)
decides_room room (Node id flow) = (λ _. tt, λ _. refl)
decides_room room (Arc source target low capacity cost) = (λ _. tt, λ _. refl)

pub decides_count : (before : List Line) (l : Line) → Decides (in_count (progress_of before) l) (InCount before l)
decides_count before Comment = (λ _. tt, λ _. refl)
decides_count before (Problem nodes arcs) = (λ _. tt, λ _. refl)
decides_count before (Node id flow) = (λ _. tt, λ _. refl)
decides_count before (Arc source target low capacity cost) =
    rw (total_is before, arcs_is before) (Decides-ltb (arc_lines before) (ARCS before))
