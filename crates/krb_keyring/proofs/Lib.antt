mod ChoiceLemmas
mod HeldLemmas
mod JudgingLemmas
