pub mod Own
pub mod Parts
pub mod Written
pub mod Filled
