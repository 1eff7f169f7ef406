pub mod Laid
pub mod Differences
pub mod Shape
pub mod Partings
pub mod Prelude
