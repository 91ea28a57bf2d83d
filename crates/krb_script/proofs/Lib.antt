pub mod FieldLemmas
pub mod BufferLemmas
pub mod KeytabLemmas
pub mod ScriptLemmas
mod DigitLemmas
mod PartLemmas
