mod RunLemmas
pub mod StandingLemmas
mod ExitLemmas
mod CloseLemmas
