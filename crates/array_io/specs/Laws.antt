-- The statements of the laws, and what they alone speak of.
pub mod Core
pub mod Law
pub mod RunLaw
pub mod Starts
