pub mod Reads
pub mod Finds
pub mod Above
pub mod Walks
pub mod Readings
pub mod Prelude
