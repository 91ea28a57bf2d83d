pub mod Gives
pub mod Orders
pub mod Principals
