pub mod SearchLaws
pub mod StepLaws
pub mod SoundLaws
pub mod FirstLaws
pub mod Examples
