pub mod TgsAsked
pub mod Fresh
pub mod Taken
pub mod Chain
