pub mod Ports
pub mod Written
pub mod Told
pub mod Refusals
pub mod Few
