-- Tables as if in the midst of a planning.
--   AllAre     every entry of a list is the same one
--   far        a potential at the limits of its numbers
--   arc, node, offer   entries of the simplex that lead to nodes and legs that are not there
--   stray      a label that no search has left
--   astray     links to legs that are not there, or to others than a chain has
--   keyed      a station that no network has, ahead of all others
--   Poisoned   every entry of the tables is one that leads astray
use Rattle.std.specs.Prelude.{◌≡◌, List, length, replicate, true, pos, neg_ℤ, Some, None}
use Rattle.costs.specs.Kinds.{CentsThenBikes, count}
use Rattle.search.specs.declared.label.Label.{Label}
use Rattle.search.specs.declared.chains.Links.{Links}
use Rattle.prices.specs.declared.queue.Keyed.{Keyed}
use Rattle.simplex.specs.declared.arc.Arc.{Arc}
use Rattle.simplex.specs.declared.arc.Offer.{Offer}
use Rattle.simplex.specs.declared.node.Node.{Node}
use Rattle.planning.specs.declared.tables.Tables.{Tables}

abbrev pub AllAre : {X : Type 0} → X → List X → Type 0
AllAre x xs = xs ≡ replicate (length xs) x

abbrev pub far : CentsThenBikes
far = record { first = count (pos 9223372036854775807); second = count (neg_ℤ (pos 9223372036854775808)) }

abbrev pub arc : Arc
arc = record { cost = neg_ℤ (pos 4194304); leg = 65535; capacity = 65535; tail = 255; head = 254; is_turned = true }

abbrev pub node : Node
node =
    record {
      link = record { up = neg_ℤ (pos 1); down = pos 2147483647; arc = 65534; parent = 255 };
      next = 255;
      previous = 254;
      depth = 255;
    }

abbrev pub offer : Offer
offer = record { cost = neg_ℤ (pos 9223372036854775808); arc = 65534 }

abbrev pub stray : {C : Type 0} → Label C
stray = record { arrival = None; better = None; changed = true }

abbrev pub astray : Links
astray = record { forth = Some 9; back = Some 65535 }

abbrev pub keyed : Keyed
keyed = record { key = neg_ℤ (pos 9223372036854775808); station = 65535 }

pub record Poisoned (tables : Tables) : Type 0 where
  pub amounts : AllAre 60000 tables.draft.amounts.now
  pub left : AllAre (neg_ℤ (pos 5)) tables.draft.left.now
  pub potentials : AllAre far tables.potentials.now
  pub lower : AllAre arc tables.simplex.lower.now
  pub upper : AllAre arc tables.simplex.upper.now
  pub nodes : AllAre node tables.simplex.nodes.now
  pub folded : AllAre (neg_ℤ (pos 9223372036854775808)) tables.simplex.potentials.now
  pub best : AllAre offer tables.simplex.best.now
  pub marks : AllAre true tables.marks.now
  pub labels : AllAre stray tables.labels.now
  pub cents : AllAre stray tables.cents.now
  pub heads : AllAre astray tables.chains.heads.now
  pub nexts : AllAre astray tables.chains.nexts.now
  pub heap : AllAre keyed tables.queue.heap.now
  pub places : AllAre 65535 tables.queue.places.now
