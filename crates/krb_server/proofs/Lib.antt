pub mod Frames
pub mod Retold
pub mod Once
pub mod HalvesLemmas
