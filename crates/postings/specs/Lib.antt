pub mod Record
pub mod Area
pub mod Example
