pub mod Feeds
pub mod Fronts
pub mod Prelude
