pub mod TgtReqs
pub mod Whole
