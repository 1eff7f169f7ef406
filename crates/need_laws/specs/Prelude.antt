-- The words that this crate's clauses cite, passed on from one place. Declares nothing.
pub use Rattle.std.specs.List.{AllByRecursion}
pub use Rattle.zone_model.specs.Names.{IsName, Name}
pub use Rattle.zone_model.specs.Versions.{Version}
pub use Rattle.master_file.specs.Rows.{CanBeDumped}
pub use Rattle.trie_model.specs.Capacity.{IsLeast, is_roomy}
pub use Rattle.job_model.specs.Commands.{FedJob, Job}
pub use Rattle.job_model.specs.Feeds.{Fed, FedPair, all_numbers, by_worker, passes_fed}
pub use Rattle.job_model.specs.Jobs.{fed_job_of, job_of}
pub use Rattle.job_model.specs.Needs.{cells_of_commands, most_cells, most_operations}
pub use Rattle.job_model.specs.Outcomes.{Lawful, Pair, all_pairs, passes_for}
pub use Rattle.job_model.specs.Sizes.{cell_count}
pub use Rattle.report_laws.specs.Changes.{AllAsked}
pub use Rattle.report_laws.specs.Octets.{AllOctets}
pub use Rattle.report_laws.specs.Versions.{AreFedOutcomesOf, AreOutcomesOf}
pub use Rattle.need_laws.specs.Bounds.{AllFedFindRoom, AllFindRoom, AllNameFew, HaveFewCells, HaveFewOperations, IsSaidJob, IsSaidList, IsSized, IsSizedList}
pub use Rattle.qp_multi.specs.Openings.{room_in}
