mod Doubling
pub mod Growing
