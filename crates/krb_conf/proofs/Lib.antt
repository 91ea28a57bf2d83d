pub mod FileLemmas
pub mod KeyLemmas
pub mod LineLemmas
pub mod PartLemmas
pub mod ReadingLemmas
pub mod RealmLemmas
