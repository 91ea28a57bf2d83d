pub mod Admits
pub mod Candidates
pub mod Channels
pub mod Connections
pub mod Services
pub mod Told
pub mod Turns
