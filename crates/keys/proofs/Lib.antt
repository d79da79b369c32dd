pub mod Parts
pub mod Whole
pub mod One
pub mod Entered
