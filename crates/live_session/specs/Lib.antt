pub mod Chunks
pub mod Zones
pub mod Takings
pub mod Dues
pub mod Ends
pub mod Servings
pub mod Seats
pub mod Prelude
