-- The words that this crate's clauses cite, passed on from one place. Declares nothing.
pub use Rattle.std.specs.List.{range_with_len}
pub use Rattle.pin_core.specs.Machine.{is_kept_cell, is_kept_chunk, is_settled, mark_of, started}
pub use Rattle.pin_core.specs.Words.{half_at, status_at, words_for}
pub use Rattle.shared_cells.specs.Calls.{Adds, CanMark, CanRound, IsPass, KeepsNamed, LooksBeside, MayFree, MayWrite, SeesUpTo}
pub use Rattle.shared_cells.specs.Cells.{HasCopied, IsBlankWord, IsJoined, IsNewTurn, MayCopy, MayCopyCells, cells_of, with_words}
pub use Rattle.shared_cells.specs.History.{IsPartOf}
pub use Rattle.shared_cells.specs.Steps.{Accounts, CanOpen, CanPublish, Confirmed, Confirms, IsCurrent, IsNamed}
pub use Rattle.shared_cells.specs.Steps.{IsWordOf, Learns, Marks, Opened, Pins, Published, Rounded, SeesCurrent, Settles}
pub use Rattle.shared_cells.specs.Views.{chunks_of, core_size, has_turn, is_idle, is_pinned, is_told, kept_in, marks_of, note_of}
pub use Rattle.shared_cells.specs.Views.{number_of, pass_of, pass_view, pinned_image, pinned_root, pinned_version, root_of}
pub use Rattle.shared_cells.specs.Views.{stored_view, unopened_view, with_note, with_pass, with_progress, without_pass, words_of}
