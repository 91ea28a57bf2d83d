pub mod Props
pub mod Principals
pub mod Held
pub mod Cached
pub mod Steps
pub mod Came
pub mod Brought
pub mod FreshRuns
