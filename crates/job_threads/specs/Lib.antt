pub mod Snapshots
pub mod Zones
pub mod Gatherings
pub mod Passes
pub mod Ready
pub mod Prelude
