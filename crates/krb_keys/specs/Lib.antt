pub mod Names
pub mod Listing
pub mod KeyLines
pub mod Failures
pub mod Commands
