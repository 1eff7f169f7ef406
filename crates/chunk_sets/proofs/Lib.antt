pub mod ChunkSetLemmas
pub mod FlagLemmas
pub mod WordLemmas
