pub mod Refusals
pub mod Lengths
pub mod Once
pub mod Few
