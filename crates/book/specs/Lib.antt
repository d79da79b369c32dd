pub mod Book
pub mod Calls
pub mod Stored
pub mod Code
