pub mod PartsLemmas
pub mod PhraseLemmas
pub mod ScriptLemmas
pub mod SpelledLemmas
