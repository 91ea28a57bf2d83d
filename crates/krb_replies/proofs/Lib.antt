pub mod Telling
pub mod Chains
pub mod Tickets
pub mod FirstParts
pub mod Suites
pub mod Once
pub mod Numbers
