pub mod Integers
pub mod ErrorTokens
