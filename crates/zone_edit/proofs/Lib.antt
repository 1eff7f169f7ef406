pub mod VersionLaws
pub mod ShrinkLaws
pub mod StoreLaws
pub mod ApplyLaws
pub mod SetLaws
pub mod EditLaws
pub mod WayLaws
pub mod MeetLaws
