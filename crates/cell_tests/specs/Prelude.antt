-- The words that this crate's clauses cite, passed on from one place. Declares nothing.
pub use Rattle.std.specs.Bool.{OnTrue}
pub use Rattle.std.specs.List.{list_any}
pub use Rattle.shared_cells.specs.History.{IsPartOf}
pub use Rattle.shared_cells.specs.Steps.{CanPublish, Published}
pub use Rattle.shared_cells.specs.Views.{pinned_image, pinned_root}
pub use Rattle.cell_tests.specs.OneCell.{CanGoOn, IsFresh, IsTold, IsVersion, KnowsChunks, KnowsTurn, Pays, Writes, cell_of, place_of}
