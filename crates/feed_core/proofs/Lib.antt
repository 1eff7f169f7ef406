pub mod Seats
pub mod Lists
pub mod Keeping
pub mod Closing
pub mod Seating
