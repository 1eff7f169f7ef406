pub mod EntryLaws
pub mod TextLaws
pub mod FedLaws
pub mod LineLaws
pub mod SoFarLaws
pub mod ServeLaws
