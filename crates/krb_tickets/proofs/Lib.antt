pub mod BroughtLemmas
pub mod CachedLemmas
pub mod Chains
pub mod FreshLemmas
pub mod Names
pub mod Once
pub mod Refusals
pub mod Starts
