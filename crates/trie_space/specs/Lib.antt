pub mod Weights
pub mod Spaces
pub mod Ways
pub mod Standing
pub mod Rooted
