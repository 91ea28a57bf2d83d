pub mod Choice
pub mod Held
pub mod Judging
