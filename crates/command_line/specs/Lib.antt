pub mod Commands
pub mod FoundRows
pub mod Invocations
pub mod Requests
pub mod Sizes
