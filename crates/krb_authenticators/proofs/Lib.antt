pub mod Lengths
pub mod ApLengths
pub mod TgsLengths
pub mod PrivLengths
