pub mod SpaceLaws
pub mod WeightLaws
pub mod WayLaws
pub mod RootedLaws
