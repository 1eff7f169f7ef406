pub mod Asked
pub mod Phrases
pub mod Views
pub mod Parts
pub mod Scripts
pub mod Spelled
pub mod Prelude
