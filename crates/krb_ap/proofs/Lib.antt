pub mod PartLengths
pub mod ApRepTokens
pub mod Numbers
pub mod ShownLengths
pub mod Once
mod OptionLemmas
