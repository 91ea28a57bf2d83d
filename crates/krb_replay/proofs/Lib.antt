pub mod CacheLemmas
pub mod Cut
pub mod Order
pub mod Runs
pub mod Same
pub mod Window
pub mod TellingLemmas
