-- The tree stays linked, and what the stem names among its nodes.
use Rattle.std.proofs.Common.{◌<◌, length}
use Rattle.simplex.specs.Links.{AreLinked}
use Rattle.simplex.proofs.rehang.rehang.Given as goal

abbrev pub invariant-stem : goal.invariant-stem
invariant-stem l = (AreLinked l.nodes) × ((l.walk.last < length l.nodes) × ((l.walk.next < length l.nodes) × ((l.at < length l.nodes) × (l.held.parent < length l.nodes))))
