-- A slot is marked missing.
pub mod FailedMarked
pub mod MarkMissing
pub mod MarkedEnd
pub mod MarkedWhole
pub mod Marking
pub mod MarkingCalls
pub mod MarkingHolds
pub mod MarkingImages
pub mod MarkingMoments
pub mod MarkingPublished
pub mod MarkingRests
pub mod MarkingTable
