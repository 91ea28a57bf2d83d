mod TgsRequests
pub mod Chains
pub mod Once
pub mod Asked
