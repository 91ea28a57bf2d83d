pub mod Tgts
pub mod TgtReqs
pub mod Seekers
pub mod Beginnings
pub mod InitSteps
pub mod InitRuns
pub mod Came
pub mod FreshRuns
