pub mod Steps
pub mod Turns
pub mod Rows
pub mod Room
pub mod Loops
pub mod Whole
