pub mod Values
pub mod Changed
pub mod Lists
pub mod Instead
pub mod Digits
pub mod Letters
