pub mod ItemLaws
mod TailLemmas
mod CopyLaws
pub mod LayingLaws
