pub mod Ids
pub mod Index
pub mod One
pub mod Judges
pub mod Begins
pub mod Ends
pub mod Alone
pub mod Walks
