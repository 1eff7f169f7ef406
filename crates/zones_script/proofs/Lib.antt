pub mod AloneLemmas
pub mod ListLemmas
pub mod ReadLemmas
