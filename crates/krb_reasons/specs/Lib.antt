pub mod Wanted
pub mod Shapes
pub mod Reasons
pub mod Judged
pub mod Kept
pub mod BadLines
