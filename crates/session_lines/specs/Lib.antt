pub mod Taking
pub mod Views
pub mod Printing
pub mod Well
pub mod Prelude
