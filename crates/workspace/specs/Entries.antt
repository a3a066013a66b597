-- How many entries the tables of a workspace have.
--   Holds        a workspace with so many entries for stations and for legs
--   Lent         tables that are lent from a workspace
--   HasEntries   tables the shortest of which have so many entries for stations and for legs
use Rattle.std.specs.Prelude.{◌≡◌, ℕ, length}
use Rattle.planning.specs.Tables.{shortest, station_lengths, leg_lengths}
use Rattle.planning.specs.declared.tables.Tables.{Tables}
use Rattle.workspace.specs.declared.Workspace.{Workspace}

pub record Holds (stations legs : ℕ) (w : Workspace) : Type 0 where
  pub amounts : length w.amounts.items ≡ legs
  pub left : length w.left.items ≡ stations
  pub potentials : length w.potentials.items ≡ stations
  pub lower : length w.lower.items ≡ legs
  pub upper : length w.upper.items ≡ legs
  pub nodes : length w.nodes.items ≡ stations
  pub folded : length w.folded.items ≡ stations
  pub best : length w.best.items ≡ stations
  pub marks : length w.marks.items ≡ stations
  pub labels : length w.labels.items ≡ stations
  pub cents : length w.cents.items ≡ stations
  pub heads : length w.heads.items ≡ stations
  pub nexts : length w.nexts.items ≡ legs
  pub heap : length w.heap.items ≡ stations
  pub places : length w.places.items ≡ stations

-- with what the workspace has in them
pub record Lent (w : Workspace) (tables : Tables) : Type 0 where
  pub amounts : tables.draft.amounts.now ≡ w.amounts.items
  pub left : tables.draft.left.now ≡ w.left.items
  pub potentials : tables.potentials.now ≡ w.potentials.items
  pub lower : tables.simplex.lower.now ≡ w.lower.items
  pub upper : tables.simplex.upper.now ≡ w.upper.items
  pub nodes : tables.simplex.nodes.now ≡ w.nodes.items
  pub folded : tables.simplex.potentials.now ≡ w.folded.items
  pub best : tables.simplex.best.now ≡ w.best.items
  pub marks : tables.marks.now ≡ w.marks.items
  pub labels : tables.labels.now ≡ w.labels.items
  pub cents : tables.cents.now ≡ w.cents.items
  pub heads : tables.chains.heads.now ≡ w.heads.items
  pub nexts : tables.chains.nexts.now ≡ w.nexts.items
  pub heap : tables.queue.heap.now ≡ w.heap.items
  pub places : tables.queue.places.now ≡ w.places.items

pub record HasEntries (stations legs : ℕ) (tables : Tables) : Type 0 where
  pub for_stations : shortest (station_lengths tables) ≡ stations
  pub for_legs : shortest (leg_lengths tables) ≡ legs
