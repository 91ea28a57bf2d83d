pub mod Taken
pub mod Known
pub mod Ahead
pub mod Taking
pub mod Parted
