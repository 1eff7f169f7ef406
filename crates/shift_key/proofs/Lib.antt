pub mod PlaceLemmas
pub mod PositionLemmas
pub mod EncodeLemmas
pub mod LeadLemmas
pub mod ShapeLemmas
pub mod DifferenceLemmas
mod PartingLemmas
