pub mod Chain
pub mod KdcCodes
pub mod Once
pub mod PartLemmas
pub mod Cuts
pub mod NameLemmas
pub mod NameReturns
pub mod Truths
