pub mod CheckLemmas
pub mod FetchedLemmas
pub mod HandedLemmas
pub mod PlayedLemmas
pub mod StandingLemmas
pub mod ListedLemmas
