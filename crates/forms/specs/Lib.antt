pub mod Plain
pub mod Agree
pub mod Written
