pub mod Rows
pub mod Zones
pub mod Owners
pub mod Items
pub mod Owned
pub mod Prelude
