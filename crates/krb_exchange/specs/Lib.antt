pub mod Table
pub mod Rows
pub mod Layouts
pub mod Results
pub mod PrivMessages
