pub mod Bitmaps
pub mod Nodes
