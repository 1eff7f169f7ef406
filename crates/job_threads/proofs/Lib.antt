pub mod SnapshotLaws
pub mod WorkerPassesLaws
pub mod WorkerLaws
pub mod GatherLaws
