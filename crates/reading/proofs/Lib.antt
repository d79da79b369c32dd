pub mod Lists
pub mod Flat
pub mod Simulates
pub mod Each
pub mod More
