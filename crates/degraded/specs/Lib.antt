pub mod Law
pub mod LiveView
pub mod Oracle
pub mod ReadMember
pub mod RowValue
