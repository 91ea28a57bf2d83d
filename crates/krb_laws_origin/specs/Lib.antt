pub mod Origins
pub mod Freshness
