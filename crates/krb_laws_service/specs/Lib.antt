pub mod Served
pub mod Listed
