pub mod Fields
pub mod Items
pub mod Text
pub mod Realms
pub mod Progress
pub mod Answering
