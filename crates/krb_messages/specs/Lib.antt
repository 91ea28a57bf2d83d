pub mod Table
pub mod Layouts
pub mod OneSpelling
pub mod Oid
pub mod Frame
