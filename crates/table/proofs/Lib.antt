pub mod Numbers
pub mod Opens
pub mod Tied
pub mod Rows
