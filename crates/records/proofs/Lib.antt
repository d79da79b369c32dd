pub mod Digits
pub mod Fields
pub mod Values
pub mod Walk
pub mod Further
pub mod Areas
pub mod Once
