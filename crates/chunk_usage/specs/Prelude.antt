-- The words that this crate's clauses cite, passed on from one place. Declares nothing.
pub use Rattle.std.specs.List.{All, position_or_len}
pub use Rattle.packed_node.specs.declared.Cell.{Cell}
pub use Rattle.chunk_cells.specs.Chunks.{IsFree}
pub use Rattle.chunk_sets.specs.ChunkSets.{Without, has}
pub use Rattle.chunk_usage.specs.Counting.{IsMarked, bump_low, is_low, is_sparse, is_thin, is_unmixed, sparse_count, thin_row}
pub use Rattle.chunk_usage.specs.Handing.{IsShort, all_released, allocated, grant_of, lowest_free, new_grant, newly_taken}
pub use Rattle.chunk_usage.specs.Handing.{next_cell, released, roomy, shortage, taken, with_bump}
pub use Rattle.chunk_usage.specs.Keeping.{AreOlder, CanForget, CanFree, FreesChunks, FreesUnreached, closed, dropped, freed, frozen, is_among, is_in_rows, is_kept}
pub use Rattle.chunk_usage.specs.Keeping.{is_needed, is_row_of, is_unreached, narrowed, restored, rows_of, without_row}
pub use Rattle.chunk_usage.specs.Ledger.{IsLedger, Rising, Row, filled, free_count, is_bump, is_given, is_mutable, is_used, newest, reserve_of, row_of, unused}
pub use Rattle.chunk_usage.specs.Rooms.{Grows}
