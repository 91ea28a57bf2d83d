pub mod Spelled
pub mod Results
pub mod PrivMessages
