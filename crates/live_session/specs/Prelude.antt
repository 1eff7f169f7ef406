-- The words that this crate's clauses cite, passed on from one place. Declares nothing.
pub use Rattle.zone_model.specs.Lines.{lines_of}
pub use Rattle.zone_model.specs.MasterFile.{zone_of}
pub use Rattle.outer_io.specs.Faults.{Blames, BlamesEach}
pub use Rattle.job_model.specs.Jobs.{is_cut}
pub use Rattle.job_model.specs.Sizes.{cell_count, trie_entries}
pub use Rattle.zone_model.specs.Versions.{Version}
pub use Rattle.trie_write.specs.Entries.{entries_of_items}
pub use Rattle.session_lines.specs.Taking.{line_end}
pub use Rattle.session_talk.specs.Answering.{IsFed}
pub use Rattle.session_talk.specs.Talking.{ReadsToEnd}
pub use Rattle.session_talk.specs.Serving.{Finished, IsTooLong, Settled, Stands}
pub use Rattle.job_commands.specs.Histories.{StandsAs}
pub use Rattle.job_commands.specs.Prelude.{AreAll, OpensAt, known_at}
pub use Rattle.outer_io.specs.Bytes.{Held}
pub use Rattle.zone_text.specs.Views.{Reads}
pub use Rattle.master_file.specs.Rows.{CanBeDumped}
pub use Rattle.qp_multi.specs.Openings.{Refuses}
