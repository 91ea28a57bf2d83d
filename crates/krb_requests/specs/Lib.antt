pub mod Pieces
pub mod PaDatas
pub mod Bodies
pub mod Mechs
