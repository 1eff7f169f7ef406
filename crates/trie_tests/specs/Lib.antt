pub mod Example
pub mod Tries
pub mod Prelude
