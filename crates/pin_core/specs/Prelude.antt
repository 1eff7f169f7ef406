-- The words that this crate's clauses cite, passed on from one place. Declares nothing.
pub use Rattle.std.specs.List.{fold, list_all, list_any}
pub use Rattle.pin_core.specs.Machine.{IsInPlace, IsSound, IsStep, assigned, can_open, can_publish, entered, exchanged, freed, given, has_cell, image_of, is_distinct}
pub use Rattle.pin_core.specs.Machine.{is_given, is_in_version, is_kept_cell, is_kept_chunk, is_rooted, is_settled, kept_by_round, learned, left, looked, mark_of}
pub use Rattle.pin_core.specs.Machine.{meets, names_version, next, opened, published, round_checked, scanned, settled, shown, started, with_cell, written}
pub use Rattle.pin_core.specs.Runs.{EveryRunHolds, IsWithinLimits, StoppedWithin, after, answers}
pub use Rattle.pin_core.specs.Sound.{mark_at, stage_at, turn_of}
pub use Rattle.pin_core.specs.Words.{chunk_of, current_word, half_at, root_number, size_of, version_of}
