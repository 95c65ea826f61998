pub mod Reports
pub mod Scrubbing
