pub mod OrderLemmas
pub mod TokenLemmas
