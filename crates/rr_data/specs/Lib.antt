pub mod Changes
pub mod Fields
pub mod Items
pub mod ItemViews
pub mod Places
pub mod Printing
pub mod Pushing
pub mod Prelude
