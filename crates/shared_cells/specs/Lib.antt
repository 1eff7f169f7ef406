pub mod History
pub mod Views
pub mod Rule
pub mod Steps
pub mod Cells
pub mod Calls
pub mod Seats
pub mod Prelude
