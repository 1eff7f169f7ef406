pub mod ReportLemmas
pub mod SummaryLemmas
pub mod FeedLemmas
