pub mod FrameLemmas
pub mod Spellings
