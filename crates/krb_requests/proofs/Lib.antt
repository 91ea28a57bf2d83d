pub mod Lengths
pub mod Passwords
