pub mod Padded
pub mod Legal
pub mod Values
pub mod Agree
