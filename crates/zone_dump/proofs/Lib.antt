pub mod WritingLaws
pub mod LineLaws
pub mod WalkLaws
pub mod ZoneLaws
