-- What tests compare with is what the definitions say.
pub mod Evaluated
pub mod EvaluatedRows
pub mod Readings
