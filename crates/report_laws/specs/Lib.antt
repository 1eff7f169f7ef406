pub mod Changes
pub mod Octets
pub mod Versions
pub mod Reports
pub mod Apart
pub mod Prelude
