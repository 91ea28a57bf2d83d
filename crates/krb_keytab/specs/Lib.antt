pub mod Format
pub mod Reading
pub mod Views
pub mod Writing
pub mod Finding
pub mod Installing
pub mod RealmKeys
