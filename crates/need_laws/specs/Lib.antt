pub mod Bounds
pub mod Prelude
