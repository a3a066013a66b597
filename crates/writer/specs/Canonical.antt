-- The canonical text of a network, and the law that it can be read back.
--   Appends          what a function answers that writes bytes behind a string, where there is memory for them
--   problem_line     the line that announces the numbers of nodes and arcs
--   node_line        the line of a station
--   arc_line         the line of a leg
--   node_lines       the lines of the stations whose balance is not 0, by `with_node`
--   canonical_lines  all lines, in the order of the text
--   ended            a line with the byte that ends it
--   canonical        the bytes of the whole text
--   ReadBack         the canonical text of a legal network states it
use Rattle.std.specs.Prelude.{ℕ, zero, suc, ◌+◌, ◌≤◌, List, [], ◌∷◌, ◌++◌, map, length, ℤ, pos, negsuc, codes, decimal, ◌≡◌, Result, OnOk, String, string_bytes}
use Rattle.std.specs.List.{flat_map}
use Rattle.std.specs.Fmt.{signed_decimal}
use Rattle.records.specs.declared.leg.Leg.{Leg}
use Rattle.records.specs.declared.station.Station.{Station}
use Rattle.text_rules.specs.Legal.{Legal}
use Rattle.text_rules.specs.Stated.{States}

abbrev pub Appends : {X E Z : Type 0} → Result X E → String Z → String Z → List ℕ → Type 0
Appends result before after bytes = OnOk result (string_bytes after ≡ string_bytes before ++ bytes)

-- `p min NODES ARCS`
abbrev pub problem_line : ℕ → ℕ → List ℕ
problem_line nodes arcs = codes "p min " ++ (decimal nodes ++ (codes " " ++ decimal arcs))

-- `n ID FLOW`
abbrev pub node_line : ℕ → ℤ → List ℕ
node_line id flow = codes "n " ++ (decimal id ++ (codes " " ++ signed_decimal flow))

-- `a SRC DST 0 CAP COST`
abbrev pub arc_line : Leg → List ℕ
arc_line leg =
    codes "a " ++ (decimal (leg.start + 1) ++ (codes " " ++ (decimal (leg.end + 1)
    ++ (codes " 0 " ++ (decimal leg.capacity ++ (codes " " ++ decimal leg.charge))))))

-- a node's line before further lines, where its balance is not 0
abbrev pub with_node : ℕ → ℤ → List (List ℕ) → List (List ℕ)
with_node id (pos zero) rest = rest
with_node id (pos (suc n)) rest = node_line id (pos (suc n)) ∷ rest
with_node id (negsuc n) rest = node_line id (negsuc n) ∷ rest

-- by rising number, which for the first station is the one given; station k has the ID k + 1
abbrev pub node_lines : ℕ → List Station → List (List ℕ)
node_lines k [] = []
node_lines k (station ∷ rest) = with_node (k + 1) station.balance (node_lines (k + 1) rest)

abbrev pub canonical_lines : List Station → List Leg → List (List ℕ)
canonical_lines stations legs = problem_line (length stations) (length legs) ∷ (node_lines 0 stations ++ map arc_line legs)

-- byte 10 ends a line
abbrev pub ended : List ℕ → List ℕ
ended line = line ++ (10 ∷ [])

abbrev pub canonical : List Station → List Leg → List ℕ
canonical stations legs = flat_map ended (canonical_lines stations legs)

-- the canonical text of a legal network states it, unless it is too long; and what a text states is legal
pub record ReadBack (stations : List Station) (legs : List Leg) : Type 0 where
  pub states_it : Legal stations legs → length (canonical stations legs) ≤ 65536 → States (canonical stations legs) (record { stations = stations; legs = legs })
  pub stated_is_legal : (text : List ℕ) → States text (record { stations = stations; legs = legs }) → Legal stations legs
