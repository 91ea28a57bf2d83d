pub mod ShortLemmas
pub mod ReadingLemmas
pub mod PartingLemmas
