pub mod Ways
pub mod Stores
pub mod Asks
pub mod Blocks
pub mod Prelude
