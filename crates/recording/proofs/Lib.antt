pub mod Days
pub mod Stamps
pub mod Taken
pub mod Fields
pub mod One
