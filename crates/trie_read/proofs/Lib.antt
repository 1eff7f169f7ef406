mod NodeLaws
mod FindLaws
mod TwigLaws
mod StandLaws
mod LeafLaws
mod LabelLaws
mod PathLaws
mod TurnLaws
mod GuideLaws
mod AboveLaws
mod IterLaws
mod SeekLaws
mod MetLaws
pub mod FoundLaws
mod SizeLaws
