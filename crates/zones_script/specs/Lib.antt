pub mod Phrases
pub mod Scripts
pub mod Jobs
pub mod Told
pub mod Views
pub mod Prelude
