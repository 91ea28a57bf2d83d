pub mod Tgts
pub mod TgtReqs
pub mod Refusals
pub mod Chains
pub mod Once
pub mod Seeking
pub mod Few
pub mod FreshLemmas
