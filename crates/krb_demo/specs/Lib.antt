pub mod Client
pub mod Input
