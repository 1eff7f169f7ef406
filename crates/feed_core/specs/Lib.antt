pub mod Knowledge
pub mod Rule
pub mod Steps
pub mod Feeds
pub mod Prelude
