pub mod Words
pub mod Sound
pub mod Machine
pub mod Runs
pub mod Inside
pub mod Prelude
