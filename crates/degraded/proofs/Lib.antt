pub mod Instances
pub mod Loss
pub mod Members
pub mod Others
pub mod Sums
pub mod Values
