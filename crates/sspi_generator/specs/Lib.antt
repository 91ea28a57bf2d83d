pub mod Draws
pub mod Faults
pub mod Steps
pub mod Runs
pub mod Memory
