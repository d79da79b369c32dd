pub mod Wide
pub mod Eight
pub mod Calls
pub mod Table
