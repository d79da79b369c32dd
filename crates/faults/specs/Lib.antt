pub mod Refusals
pub mod Again
pub mod Completed
