pub mod Text
pub mod Rules
pub mod Answering
pub mod Halts
