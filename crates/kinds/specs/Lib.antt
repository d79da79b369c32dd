pub mod Given
pub mod Meant
