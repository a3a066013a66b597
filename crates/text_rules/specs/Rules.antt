-- The rules that the lines of a text keep, as the format's description gives them. A list of lines has the
-- newest first: each line is judged by the lines before it.
--   problem_in, NODES, ARCS   what the problem line among some lines announced, by `nodes_of` and `arcs_of`
--   Announced                 a problem line is among some lines
--   arc_lines                 how many of the lines are arc lines
--   IsNode                    a number that names a node
--   InOrder, InRange, InCount what a line keeps, by the lines before it
--   HasRoom                   the handed tables suffice for what a line announces
--   Rule, rule_number         the rules, and the number of the refusal when one is broken
--   SpellsBut                 a row that spells a line for which something does not hold
--   Breaks                    a row that breaks a rule, by the lines before it
--   Lowest                    the lowest rule that a row breaks
use Rattle.std.specs.Prelude.{◌≡◌, ℕ, ◌+◌, ◌<◌, ◌≤◌, true, List, [], ◌∷◌, pos, negsuc, ◌≤ℤ◌, is_some, Some, None, Option, ◌≢◌}
use Rattle.lines.specs.Grammar.{Written}
use Rattle.lines.specs.declared.line.Line.{Line}
use Rattle.lines.specs.declared.line.Line.TheVariants.{Comment, Problem, Node, Arc}
use Rattle.text_rules.specs.declared.progress.Header.{Header}
use Rattle.text_rules.specs.declared.progress.Room.{Room}

-- what the problem line announced, if it is there
abbrev pub problem_in : List Line → Option Header
problem_in [] = None
problem_in (Comment ∷ before) = problem_in before
problem_in (Problem nodes arcs ∷ before) = Some (record { nodes = nodes; arcs = arcs })
problem_in (Node id flow ∷ before) = problem_in before
problem_in (Arc source target low capacity cost ∷ before) = problem_in before

abbrev pub Announced : List Line → Type 0
Announced lines = is_some (problem_in lines) ≡ true

-- 0 before they are announced
abbrev pub nodes_of : Option Header → ℕ
nodes_of None = 0
nodes_of (Some h) = h.nodes

abbrev pub arcs_of : Option Header → ℕ
arcs_of None = 0
arcs_of (Some h) = h.arcs

abbrev pub NODES : List Line → ℕ
NODES lines = nodes_of (problem_in lines)

abbrev pub ARCS : List Line → ℕ
ARCS lines = arcs_of (problem_in lines)

abbrev pub arc_lines : List Line → ℕ
arc_lines [] = 0
arc_lines (Comment ∷ before) = arc_lines before
arc_lines (Problem nodes arcs ∷ before) = arc_lines before
arc_lines (Node id flow ∷ before) = arc_lines before
arc_lines (Arc source target low capacity cost ∷ before) = arc_lines before + 1

-- one problem line; node and arc lines come behind it, and no node line behind an arc line
abbrev pub InOrder : List Line → Line → Type 0
InOrder before Comment = Unit {0}
InOrder before (Problem nodes arcs) = problem_in before ≡ None
InOrder before (Node id flow) = Announced before × (arc_lines before ≡ 0)
InOrder before (Arc source target low capacity cost) = Announced before

-- a node's ID
abbrev pub IsNode : List Line → ℕ → Type 0
IsNode before id = (1 ≤ id) × (id ≤ NODES before)

abbrev pub InRange : List Line → Line → Type 0
InRange before Comment = Unit {0}
InRange before (Problem nodes arcs) = (1 ≤ nodes) × (nodes ≤ 240) × (arcs ≤ 3000)
InRange before (Node id flow) = IsNode before id × (negsuc 499 ≤ℤ flow) × (flow ≤ℤ pos 500)
InRange before (Arc source target low capacity cost) =
    IsNode before source × IsNode before target × (source ≢ target) × (low ≡ 0) × (capacity ≤ 500) × (cost ≤ 10000)

abbrev pub HasRoom : Room → Line → Type 0
HasRoom room Comment = Unit {0}
HasRoom room (Problem nodes arcs) = (nodes ≤ room.stations) × (arcs ≤ room.legs)
HasRoom room (Node id flow) = Unit {0}
HasRoom room (Arc source target low capacity cost) = Unit {0}

abbrev pub InCount : List Line → Line → Type 0
InCount before Comment = Unit {0}
InCount before (Problem nodes arcs) = Unit {0}
InCount before (Node id flow) = Unit {0}
InCount before (Arc source target low capacity cost) = arc_lines before < ARCS before

pub data Rule : Type 0 where
  form : Rule
  order : Rule
  range : Rule
  tables : Rule
  count : Rule

abbrev pub rule_number : Rule → ℕ
rule_number form = 2
rule_number order = 3
rule_number range = 4
rule_number tables = 5
rule_number count = 6

-- the row spells a line for which something does not hold
abbrev pub SpellsBut : List ℕ → (Line → Type 0) → Type 0
SpellsBut row P = (l : Line) × Written l row × (P l → ⊥)

abbrev pub Breaks : Room → List Line → List ℕ → Rule → Type 0
Breaks room before row form = (l : Line) → Written l row → ⊥
Breaks room before row order = SpellsBut row (InOrder before)
Breaks room before row range = SpellsBut row (InRange before)
Breaks room before row tables = SpellsBut row (HasRoom room)
Breaks room before row count = SpellsBut row (InCount before)

pub record Lowest (room : Room) (before : List Line) (row : List ℕ) (k : ℕ) : Type 0 where
  pub rule : Rule
  pub numbered : k ≡ rule_number rule
  pub broken : Breaks room before row rule
  pub none_lower : (other : Rule) → rule_number other < k → Breaks room before row other → ⊥
