pub mod HistoryLaws
pub mod ZoneLaws
pub mod ShowLaws
pub mod StepLaws
pub mod WorkerPassesLaws
pub mod WorkLaws
pub mod JobLaws
pub mod CloseLaws
pub mod TransactLaws
pub mod BlockLaws
pub mod CallLaws
pub mod CompactionLaws
pub mod GatherLaws
pub mod OpenLaws
pub mod EndLaws
pub mod SittingLaws
mod SittingExamples
