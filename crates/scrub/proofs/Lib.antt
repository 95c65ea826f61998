pub mod Instances
pub mod Scrubbed
pub mod Telling
