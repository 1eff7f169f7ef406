pub mod Commands
pub mod Tables
pub mod Outcomes
pub mod Reports
