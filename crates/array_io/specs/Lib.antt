pub mod Believed
pub mod Laws
pub mod Oracle
pub mod Steps
