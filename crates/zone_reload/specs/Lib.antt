pub mod Shown
pub mod Reloads
pub mod Prelude
