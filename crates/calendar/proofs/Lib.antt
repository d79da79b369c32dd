pub mod Written
pub mod Dates
pub mod Times
