pub mod Changes
pub mod Ports
pub mod Requested
pub mod ChangeSteps
pub mod ChangeRuns
