-- Arrays at rest are settled.
pub mod AtRest
pub mod AtRestImages
pub mod AtRestLost
pub mod AtRestRows
pub mod EntryAtRest
pub mod LastAtRest
pub mod LostAfter
pub mod SettledAgain
pub mod SettledEntry
