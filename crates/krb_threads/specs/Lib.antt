pub mod Journaled
pub mod Described
pub mod Answers
pub mod Runs
pub mod Worked
pub mod Threads
