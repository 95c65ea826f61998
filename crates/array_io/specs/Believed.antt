-- What has to be believed: the definitions that the headline reaches, and the records of the calls of an array.
pub mod ArrayCalls
pub mod DeviceRules
pub mod Fresh
pub mod Holds
pub mod Moments
pub mod OpenArray
pub mod ReadWhole
pub mod Settled
pub mod Views
pub mod ZeroRows
