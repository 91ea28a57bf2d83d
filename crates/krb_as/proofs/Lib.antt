mod Chains
mod Early
mod Grants
mod OwnSuite
mod ProxyLengths
mod Quiet
mod Replying
pub mod Carrying
pub mod Tasks
pub mod Refusals
pub mod Realms
pub mod Fitting
pub mod Once
pub mod Complete
pub mod ReplyLengths
pub mod BodyNames
pub mod AsTurns
pub mod Few
