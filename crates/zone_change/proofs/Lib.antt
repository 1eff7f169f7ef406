pub mod FoundLaws
pub mod CountLaws
