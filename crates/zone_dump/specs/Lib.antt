pub mod Files
pub mod Writing
pub mod Walks
pub mod Dumped
pub mod Prelude
