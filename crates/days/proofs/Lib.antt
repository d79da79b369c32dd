pub mod Open
pub mod Total
pub mod Kept
pub mod Again
pub mod Stays
pub mod Stored
