-- The words that this crate's clauses cite, passed on from one place. Declares nothing.
pub use Rattle.zone_model.specs.Keys.{most_item_octets}
pub use Rattle.pin_core.specs.Words.{words_for}
pub use Rattle.trie_model.specs.Keys.{Entry}
pub use Rattle.trie_read.specs.Readings.{Fetched, IsHeld}
pub use Rattle.shared_cells.specs.Cells.{with_words}
pub use Rattle.shared_cells.specs.Steps.{Accounts, CanPublish, IsNamed, Published}
pub use Rattle.shared_cells.specs.Views.{kept_in, pass_of, pinned_image, words_of}
pub use Rattle.chunk_usage.specs.Handing.{Lacks, consumed}
pub use Rattle.chunk_usage.specs.Keeping.{freed, kept_versions, narrowed}
pub use Rattle.chunk_usage.specs.Ledger.{free_count}
pub use Rattle.chunk_usage.specs.Rooms.{account_of}
pub use Rattle.trie_write.specs.Changes.{StaysAsItWas}
pub use Rattle.qp_multi.specs.Attempts.{Becomes, CanTry, ChangesFew}
pub use Rattle.qp_multi.specs.Bases.{IsRooted, StandsFor}
pub use Rattle.qp_multi.specs.Changes.{IsRefused, LeadsItem, asked_by, key_of, operation_of, written_by}
pub use Rattle.qp_multi.specs.Closings.{AllSeen, Ends, Gathers, IsAccounted, IsAccountedBeside, IsOfTurn}
pub use Rattle.qp_multi.specs.Commits.{IsSameSeat}
pub use Rattle.qp_multi.specs.Fulls.{version_at}
pub use Rattle.qp_multi.specs.Keepings.{GoesOn, KeptBy, versions_in}
pub use Rattle.qp_multi.specs.Meanings.{Holds, IsVersion}
pub use Rattle.qp_multi.specs.Movings.{Evacuates, Moved}
pub use Rattle.qp_multi.specs.Operations.{AreWithin, applied, operated}
pub use Rattle.qp_multi.specs.Passes.{IsHere, first_version, known_at}
pub use Rattle.qp_multi.specs.Readings.{StaysPinned}
pub use Rattle.qp_multi.specs.Tries.{Spares, Tried}
pub use Rattle.qp_multi.specs.Turns.{Agrees, AgreesWithin, cells_with, current_root}
pub use Rattle.qp_multi.specs.declared.kept.Versions.{Versions}
