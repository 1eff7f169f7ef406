pub mod ScriptLaws
pub mod TurnLemmas
pub mod ManyLemmas
pub mod OneListLemmas
pub mod FeedLaws
