pub mod Looks
pub mod Euro
pub mod White
pub mod Ends
