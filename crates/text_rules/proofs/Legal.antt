-- What every network that some text states keeps.
use Rattle.std.proofs.Common.{ℕ, ◌+◌, ◌≤◌, eqb, List, [], ◌∷◌, Option, sym, refl, subst, arith}
use Rattle.std.specs.List.{range_with_len, AllByRecursion}
use Rattle.std.proofs.ByRecursion.{All-push, All-weaker, All-map}
use Rattle.std.proofs.lemmas.Int.{ints}
use Rattle.std.proofs.lemmas.Bool.{false≢true, cond_both}
use Rattle.records.specs.declared.leg.Leg.{Leg}
use Rattle.records.specs.declared.station.Station.{Station}
use Rattle.lines.specs.declared.line.Line.{Line}
use Rattle.lines.specs.declared.line.Line.TheVariants.{Comment, Problem, Node, Arc}
use Rattle.text_rules.specs.Rules.{nodes_of, NODES, ARCS, Announced}
use Rattle.text_rules.specs.Legal.{LegLawful, Bounded, Legal}
use Rattle.text_rules.specs.Stated.{StatedNetwork, States, Lawful, Complete, leg_of, legs_of, balance_of, station_of, stations_of}
use Rattle.text_rules.specs.declared.progress.Header.{Header}
use Rattle.text_rules.proofs.Sizing.{length_legs, length_stations}

-- no leg is lawful among no stations
never_lawful : (n : ℕ) (leg : Leg) → LegLawful 0 leg → LegLawful n leg
never_lawful n leg h = let e = h.starts in absurd (omega arith)

legs_lawful : (lines : List Line) → Lawful lines → AllByRecursion (LegLawful (NODES lines)) (legs_of lines)
legs_lawful [] w = tt
legs_lawful (Comment ∷ before) w = legs_lawful before w.3
legs_lawful (Problem nodes arcs ∷ before) w =
    All-weaker (LegLawful 0) (LegLawful nodes) (never_lawful nodes) (legs_of before)
    (subst (λ (o : Option Header). AllByRecursion (LegLawful (nodes_of o)) (legs_of before)) w.0 (legs_lawful before w.3))
legs_lawful (Node id flow ∷ before) w = legs_lawful before w.3
legs_lawful (Arc source target low capacity cost ∷ before) w =
    let r = w.1 in
    All-push (LegLawful (NODES before)) (legs_of before) (leg_of source target capacity cost) (legs_lawful before w.3)
    record {
      starts = omega (arith, r.0.0, r.0.1);
      ends = omega (arith, r.1.0, r.1.1);
      apart = λ e. r.2 (omega (arith, e, r.0.0, r.1.0));
      carries = r.4;
      costs = r.5;
      unshut = refl;
    }

balance_bounded : (lines : List Line) → Lawful lines → (k : ℕ) → Bounded (balance_of lines k)
balance_bounded [] w k = (omega (arith, ints), omega (arith, ints))
balance_bounded (Comment ∷ before) w k = balance_bounded before w.3 k
balance_bounded (Problem nodes arcs ∷ before) w k = balance_bounded before w.3 k
balance_bounded (Node id flow ∷ before) w k =
    cond_both (eqb id (k + 1)) flow (balance_of before k) Bounded (λ _. (w.1.1, w.1.2)) (λ _. balance_bounded before w.3 k)
balance_bounded (Arc source target low capacity cost ∷ before) w k = balance_bounded before w.3 k

sizes_bounded : (lines : List Line) → Lawful lines → Announced lines → (1 ≤ NODES lines) × (NODES lines ≤ 240) × (ARCS lines ≤ 3000)
sizes_bounded [] w a = absurd (false≢true a)
sizes_bounded (Comment ∷ before) w a = sizes_bounded before w.3 a
sizes_bounded (Problem nodes arcs ∷ before) w a = w.1
sizes_bounded (Node id flow ∷ before) w a = sizes_bounded before w.3 a
sizes_bounded (Arc source target low capacity cost ∷ before) w a = sizes_bounded before w.3 a

all_of : {X : Type 0} (P : X → Type 0) → ((x : X) → P x) → (xs : List X) → AllByRecursion P xs
all_of P h [] = tt
all_of P h (x ∷ xs) = (h x, all_of P h xs)

lines_legal : (lines : List Line) → Lawful lines → Complete lines → Legal (stations_of lines) (legs_of lines)
lines_legal lines w c =
    let s = sizes_bounded lines w c.0 in
    let long = length_stations lines in
    record {
      some = omega (arith, s.0, long);
      few = omega (arith, s.1, long);
      few_legs = omega (arith, s.2, length_legs lines, c.1);
      bounded = All-map (λ x. Bounded x.balance) (station_of lines) (range_with_len 0 (NODES lines)) (all_of _ (balance_bounded lines w) _);
      lawful_legs = subst (λ n. AllByRecursion (LegLawful n) (legs_of lines)) (sym long) (legs_lawful lines w);
    }

pub legal : (text : List ℕ) (stations : List Station) (legs : List Leg)
    → States text (record { stations = stations; legs = legs }) → Legal stations legs
legal text stations legs s =
    subst (λ (net : StatedNetwork). Legal net.stations net.legs) (sym s.same) (lines_legal s.lines s.lawful s.complete)
