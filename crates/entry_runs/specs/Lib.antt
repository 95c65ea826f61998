pub mod Body
pub mod Built
pub mod Joined
pub mod Law
pub mod Listed
pub mod Runs
pub mod Spelling
pub mod WrittenOut
