-- Sectors are read.
pub mod CountedReads
pub mod ListedRows
pub mod LiveRows
pub mod ReadCall
pub mod ReadEnds
pub mod ReadListed
pub mod ReadSteps
pub mod ReadValue
pub mod ReadWhole
pub mod Scanning
