pub mod Arguments
pub mod Demands
pub mod Inputs
pub mod Words
