pub mod Formats
pub mod Law
pub mod Placement
