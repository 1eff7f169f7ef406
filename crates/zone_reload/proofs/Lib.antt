pub mod NameLemmas
pub mod ReloadLemmas
