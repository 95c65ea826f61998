-- Sets that are written while the table stays.
pub mod BringingUp
pub mod BringingUpImages
pub mod PutSince
pub mod Writable
pub mod Writing
pub mod WritingImages
pub mod Written
