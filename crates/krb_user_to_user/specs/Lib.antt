pub mod TgtReps
pub mod TgtRequests
pub mod AcceptSteps
pub mod AcceptRuns
