pub mod Answers
pub mod Ends
pub mod Kinds
pub mod OnBanks
pub mod Outcomes
pub mod Scrubs
pub mod Serving
pub mod ServingLaw
