pub mod Truth
pub mod Quoted
pub mod Classes
pub mod Below
pub mod Slips
