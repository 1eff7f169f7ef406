pub mod LoadLemmas
pub mod ScriptLines
pub mod SizeLemmas
pub mod ZoneLines
pub mod ApartLines
