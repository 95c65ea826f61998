-- What clauses between the steps of a call say; each is proved, and none need be believed.
pub mod Bringing
pub mod CallSteps
pub mod Contents
pub mod EntryAtRest
pub mod FillingRows
pub mod Forming
pub mod FormingRows
pub mod LiveByTable
pub mod MarkingOn
pub mod Putting
pub mod PuttingRows
pub mod PuttingSteps
pub mod ReadingOn
pub mod Scanning
pub mod Writable
pub mod Writing
