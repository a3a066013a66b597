-- The working tables that a run is lent.
--   SameTables   all five slices stay lent, and keep their lengths
use Rattle.plans.specs.Slices.{SameSlice}
use Rattle.simplex.specs.declared.tables.Tables.{Tables}

pub record SameTables (before after : Tables) : Type 0 where
  pub lower : SameSlice before.lower after.lower
  pub upper : SameSlice before.upper after.upper
  pub nodes : SameSlice before.nodes after.nodes
  pub potentials : SameSlice before.potentials after.potentials
  pub best : SameSlice before.best after.best
