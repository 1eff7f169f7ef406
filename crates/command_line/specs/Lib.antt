pub mod Numbers
pub mod Options
pub mod Invocations
pub mod Parsed
pub mod Words
pub mod Views
pub mod Prelude
