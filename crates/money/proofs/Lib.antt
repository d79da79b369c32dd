pub mod Numbers
pub mod Counts
pub mod Fractions
pub mod Amounts
pub mod Zeros
pub mod Plain
pub mod Blur
pub mod Slips
