pub mod Values
pub mod Pairs
pub mod Walks
pub mod Entries
pub mod Room
pub mod Slots
pub mod Cleared
pub mod One
