pub mod OneCell
pub mod Prelude
