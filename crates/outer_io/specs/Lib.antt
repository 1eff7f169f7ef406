pub mod Faults
pub mod Calls
pub mod Bytes
pub mod Noted
pub mod Memory
pub mod Streams
pub mod Prelude
