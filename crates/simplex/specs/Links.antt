-- Which nodes a node names.
--   AreLinked   each node's parent and next node are nodes of the list
use Rattle.std.specs.Prelude.{◌<◌, All, List, length}
use Rattle.simplex.specs.declared.node.Node.{Node}

abbrev pub AreLinked : List Node → Type 0
AreLinked nodes = All (λ node. (node.link.parent < length nodes) × (node.next < length nodes)) nodes
