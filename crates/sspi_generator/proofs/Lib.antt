pub mod Lent
pub mod Few
