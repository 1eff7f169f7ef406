pub mod Tokens
pub mod Views
pub mod Places
pub mod Spelling
pub mod Escapes
pub mod Parts
pub mod Pushing
pub mod Prelude
