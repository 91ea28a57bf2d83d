pub mod Initiators
pub mod ApReps
pub mod Answered
pub mod Shown
