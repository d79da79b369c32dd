pub mod Refusals
pub mod Given
