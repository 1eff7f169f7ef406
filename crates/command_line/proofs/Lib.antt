pub mod OriginLemmas
pub mod WordLemmas
pub mod SeedLemmas
pub mod ParsedLemmas
