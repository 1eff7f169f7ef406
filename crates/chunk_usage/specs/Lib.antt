pub mod Ledger
pub mod Rooms
pub mod Inside
pub mod Counting
pub mod Counts
pub mod Handing
pub mod Keeping
pub mod Prelude
