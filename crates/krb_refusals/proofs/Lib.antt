pub mod Integers
pub mod Lengths
