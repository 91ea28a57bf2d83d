pub mod ConnectionsLemmas
pub mod TextLemmas
pub mod WorkedLemmas
pub mod AnswersLemmas
pub mod ClosingLemmas
