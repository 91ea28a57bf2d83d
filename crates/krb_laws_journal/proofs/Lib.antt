pub mod SplitLemmas
pub mod LineLemmas
pub mod WovenLemmas
pub mod HeardLemmas
pub mod ToldLemmas
