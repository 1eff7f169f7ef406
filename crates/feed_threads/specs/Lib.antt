pub mod Feeds
pub mod Gatherings
pub mod Ready
pub mod Zones
pub mod Prelude
