pub mod Placed
pub mod Steps
pub mod Elements
pub mod Whole
pub mod Rows
