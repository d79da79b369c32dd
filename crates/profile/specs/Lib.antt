pub mod Version
pub mod Limits
pub mod Fields
pub mod Listed
pub mod Kinds
pub mod Tree
pub mod Profile
