-- Calls as rows of steps.
pub mod CallSteps
pub mod DeviceReads
pub mod DeviceSteps
pub mod FrontCalls
pub mod Trusting
