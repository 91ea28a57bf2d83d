pub mod Frames
pub mod Begun
pub mod Lengths
pub mod Once
pub mod Steps
pub mod Words
pub mod HalvesLemmas
